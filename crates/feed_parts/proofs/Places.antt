-- The bytes of parts, place by place.
use Rattle.std.proofs.Common.{◌≡◌, ◌<◌, ◌≤◌, ◌+◌, ◌-◌, ◌++◌, ◌⊎◌, inl, inr, ℕ, zero, suc, List}
use Rattle.std.proofs.Common.{[], ◌∷◌, length, get_or, take, drop, take-append-drop, length-take, length-drop, get_or-take}
use Rattle.std.proofs.Common.{get_or-drop, ap, subst, Option, Some, None, IsSome, All, slice_get, refl, sym, ◌∙◌, arith}
use Rattle.std.proofs.lemmas.Bool.{le-leb, lt-leb, cases_lt}
use Rattle.std.proofs.lemmas.List.Elements.{All-head, All-tail}
use Rattle.std.proofs.lemmas.Option.{slice_get_past, slice_get-get_or}
use Rattle.feed_model.specs.History.{or_else, byte_at}
use Rattle.feed_model.specs.Reply.{max_piece}
use Rattle.feed_model.specs.Content.{Part, byte_in, end_of, ArePartsFrom}

pub cases_option : (o : Option ℕ) → (o ≡ None) ⊎ ((x : ℕ) × (o ≡ Some x))
cases_option None = inl refl
cases_option (Some x) = inr (x, refl)

pub some_value : (o : Option ℕ) → IsSome o → (x : ℕ) × (o ≡ Some x)
some_value None s = absurd (cc s)
some_value (Some x) s = (x, refl)

pub some_is : (o : Option ℕ) (x : ℕ) → o ≡ Some x → IsSome o
some_is o x e = rw e refl

pub some_not_none : (o : Option ℕ) → IsSome o → o ≡ None → ⊥
some_not_none None s e = absurd (cc s)
some_not_none (Some x) s e = absurd (cc e)

pub both_none : (a b : Option ℕ) → a ≡ None → b ≡ None → or_else a b ≡ None
both_none a b e f = rw (e, f) refl

pub first_none : (a b : Option ℕ) → a ≡ None → or_else a b ≡ b
first_none a b e = rw e refl

pub first_some : (a b : Option ℕ) (x : ℕ) → a ≡ Some x → or_else a b ≡ Some x
first_some a b x e = rw e refl

pub second_none : (a b : Option ℕ) → b ≡ None → or_else a b ≡ a
second_none None b e = e
second_none (Some x) b e = refl

pub or_else_assoc : (a b c : Option ℕ) → or_else (or_else a b) c ≡ or_else a (or_else b c)
or_else_assoc None b c = refl
or_else_assoc (Some x) b c = refl

-- one part
pub byte_at_before : (first : ℕ) (bytes : List ℕ) (place : ℕ) → place < first → byte_at first bytes place ≡ None
byte_at_before first bytes place lt = rw (lt-leb first place lt) refl

pub byte_at_from : (first : ℕ) (bytes : List ℕ) (place : ℕ) → first ≤ place → byte_at first bytes place ≡ slice_get bytes (place - first)
byte_at_from first bytes place le = rw (le-leb first place le) refl

pub byte_at_after : (first : ℕ) (bytes : List ℕ) (place : ℕ) → first + length bytes ≤ place → byte_at first bytes place ≡ None
byte_at_after first bytes place le = byte_at_from first bytes place (omega arith) ∙ slice_get_past bytes (place - first) (omega arith)

pub byte_at_inside : (first : ℕ) (bytes : List ℕ) (place : ℕ) → first ≤ place → place < first + length bytes → byte_at first bytes place ≡ Some (get_or bytes (place - first) 0)
byte_at_inside first bytes place le lt = byte_at_from first bytes place le ∙ slice_get-get_or bytes (place - first) 0 (omega arith)

-- a place with a byte lies inside the part
pub byte_at_place : (first : ℕ) (bytes : List ℕ) (place x : ℕ) → byte_at first bytes place ≡ Some x → (first ≤ place) × (place < first + length bytes)
byte_at_place first bytes place x e = by (cases_lt place first) (cases_lt place (first + length bytes))
  where
    by : (place < first) ⊎ (first ≤ place) → (place < first + length bytes) ⊎ (first + length bytes ≤ place) → (first ≤ place) × (place < first + length bytes)
    by (inl lt) past = absurd (let u : None ≡ Some x = sym (byte_at_before first bytes place lt) ∙ e in cc)
    by (inr le) (inl lt) = (le, lt)
    by (inr le) (inr past) = absurd (let u : None ≡ Some x = sym (byte_at_after first bytes place past) ∙ e in cc)

-- parts in order
pub starts_earlier : (at least : ℕ) (ps : List Part) → least ≤ at → ArePartsFrom at ps → ArePartsFrom least ps
starts_earlier at least [] le w = tt
starts_earlier at least (p ∷ ps) le w = (omega (arith, w.0), w.1, w.2, w.3)

pub none_before : (at : ℕ) (ps : List Part) → ArePartsFrom at ps → (place : ℕ) → place < at → byte_in ps place ≡ None
none_before at [] w place lt = refl
none_before at (p ∷ ps) w place lt =
    both_none (byte_at p.first p.bytes place) (byte_in ps place) (byte_at_before p.first p.bytes place (omega (arith, w.0))) (none_before (end_of p) ps w.3 place (omega (arith, w.0)))

pub none_after : (at : ℕ) (ps : List Part) → All (λ p. end_of p ≤ at) ps → (place : ℕ) → at ≤ place → byte_in ps place ≡ None
none_after at [] w place le = refl
none_after at (p ∷ ps) w place le =
    both_none (byte_at p.first p.bytes place) (byte_in ps place) (byte_at_after p.first p.bytes place (omega (arith, All-head (λ p. end_of p ≤ at) p ps w)))
    (none_after at ps (All-tail (λ p. end_of p ≤ at) p ps w) place le)

-- the parts after a place inside the first lack it
pub none_behind : (at : ℕ) (p : Part) (ps : List Part) → ArePartsFrom at (p ∷ ps) → (place x : ℕ) → byte_at p.first p.bytes place ≡ Some x → byte_in ps place ≡ None
none_behind at p ps w place x e = none_before (end_of p) ps w.3 place (byte_at_place p.first p.bytes place x e).1

pub byte_in_append : (ps qs : List Part) (place : ℕ) → byte_in (ps ++ qs) place ≡ or_else (byte_in ps place) (byte_in qs place)
byte_in_append [] qs place = refl
byte_in_append (p ∷ ps) qs place =
    let again : byte_in (ps ++ qs) place ≡ or_else (byte_in ps place) (byte_in qs place) = byte_in_append ps qs place in
    rw again (sym (or_else_assoc (byte_at p.first p.bytes place) (byte_in ps place) (byte_in qs place)))

-- one more part behind the others
pub parts_push : (at : ℕ) (ps : List Part) (q : Part) → ArePartsFrom at ps → All (λ p. end_of p ≤ q.first) ps → at ≤ q.first → 0 < length q.bytes → length q.bytes ≤ max_piece
    → ArePartsFrom at (ps ++ q ∷ [])
parts_push at [] q w past le some few = (le, some, few, tt)
parts_push at (p ∷ ps) q w past le some few =
    (w.0, w.1, w.2, parts_push (end_of p) ps q w.3 (All-tail (λ p. end_of p ≤ q.first) p ps past) (All-head (λ p. end_of p ≤ q.first) p ps past) some few)

-- the parts from one on, and those up to it
pub parts_drop : (at : ℕ) (n : ℕ) (ps : List Part) → ArePartsFrom at ps → ArePartsFrom at (drop n ps)
parts_drop at zero ps w = w
parts_drop at (suc n) [] w = tt
parts_drop at (suc n) (p ∷ ps) w = parts_drop at n ps (starts_earlier (end_of p) at ps (omega (arith, w.0)) w.3)

pub parts_take : (at : ℕ) (n : ℕ) (ps : List Part) → ArePartsFrom at ps → ArePartsFrom at (take n ps)
parts_take at zero ps w = tt
parts_take at (suc n) [] w = tt
parts_take at (suc n) (p ∷ ps) w = (w.0, w.1, w.2, parts_take (end_of p) n ps w.3)

pub none_ahead : (at : ℕ) (ps : List Part) → All (λ p. at ≤ p.first) ps → (place : ℕ) → place < at → byte_in ps place ≡ None
none_ahead at [] w place lt = refl
none_ahead at (p ∷ ps) w place lt =
    both_none (byte_at p.first p.bytes place) (byte_in ps place) (byte_at_before p.first p.bytes place (omega (arith, All-head (λ q. at ≤ q.first) p ps w)))
    (none_ahead at ps (All-tail (λ q. at ≤ q.first) p ps w) place lt)

-- what parts that lie elsewhere add
pub byte_in_take : (n : ℕ) (ps : List Part) (place : ℕ) → byte_in (drop n ps) place ≡ None → byte_in (take n ps) place ≡ byte_in ps place
byte_in_take n ps place e =
    let split : byte_in ps place ≡ or_else (byte_in (take n ps) place) (byte_in (drop n ps) place) = subst
    (λ qs. byte_in qs place ≡ or_else (byte_in (take n ps) place) (byte_in (drop n ps) place)) (take-append-drop n ps) (byte_in_append (take n ps) (drop n ps) place) in
    sym (split ∙ second_none (byte_in (take n ps) place) (byte_in (drop n ps) place) e)

pub byte_in_drop : (n : ℕ) (ps : List Part) (place : ℕ) → byte_in (take n ps) place ≡ None → byte_in (drop n ps) place ≡ byte_in ps place
byte_in_drop n ps place e =
    let split : byte_in ps place ≡ or_else (byte_in (take n ps) place) (byte_in (drop n ps) place) = subst
    (λ qs. byte_in qs place ≡ or_else (byte_in (take n ps) place) (byte_in (drop n ps) place)) (take-append-drop n ps) (byte_in_append (take n ps) (drop n ps) place) in
    sym (split ∙ first_none (byte_in (take n ps) place) (byte_in (drop n ps) place) e)

-- the bytes of a piece from one place on
pub cut_bytes : (first low n : ℕ) (bytes : List ℕ) → first ≤ low → low + n ≤ first + length bytes → (place : ℕ) → low ≤ place → place < low + n
    → byte_at low (take n (drop (low - first) bytes)) place ≡ byte_at first bytes place
cut_bytes first low n bytes le inside place from to =
    let rest = drop (low - first) bytes in
    let len : length (take n rest) ≡ n = omega (arith, length-take n rest, length-drop (low - first) bytes) in
    let at : (low - first) + (place - low) ≡ place - first = omega arith in
    byte_at_inside low (take n rest) place from (omega arith)
    ∙ ap Some (get_or-take n rest (place - low) 0 (omega arith) ∙ get_or-drop (low - first) bytes (place - low) 0 ∙ ap (λ i. get_or bytes i 0) at)
    ∙ sym (byte_at_inside first bytes place (omega arith) (omega arith))

pub cut_length : (first low n : ℕ) (bytes : List ℕ) → first ≤ low → low + n ≤ first + length bytes → length (take n (drop (low - first) bytes)) ≡ n
cut_length first low n bytes le inside = omega (arith, length-take n (drop (low - first) bytes), length-drop (low - first) bytes)

pub neither : (a b : Option ℕ) → or_else a b ≡ None → (a ≡ None) × (b ≡ None)
neither None b e = (refl, e)
neither (Some x) b e = absurd (cc e)

pub either_way : (a b : Option ℕ) → (a ≡ None) ⊎ (b ≡ None) → or_else a b ≡ or_else b a
either_way a b (inl e) = first_none a b e ∙ sym (second_none b a e)
either_way a b (inr e) = second_none a b e ∙ sym (first_none b a e)
