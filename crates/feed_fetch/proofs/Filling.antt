-- A feed that is filled with the file that a server has.
use Rattle.std.proofs.Common.{◌≡◌, ◌≢◌, ◌<◌, ◌≤◌, ◌+◌, ◌-◌, ◌⊎◌, ℕ, zero, suc, Bool, true, false, ◌<ℤ◌, ◌≤ℤ◌, cond, nat_le, List, [], ◌∷◌}
use Rattle.std.proofs.Common.{length, take, drop, Option, Some, None, IsSome, Ok, Err, slice_get, inl, inr, refl, sym, ◌∙◌, ap, subst, arith}
use Rattle.std.specs.Prelude.{slice_range, IfSome, nat_lt}
use Rattle.std.proofs.lemmas.Int.{ints}
use Rattle.std.proofs.lemmas.Bool.Decides.{nat_tests}
use Rattle.httparse.proofs.RunLemmas.{length-slice_range}
use Rattle.feed_names.specs.ReleaseName.{Name}
use Rattle.feed_model.specs.declared.reply.Reply.TheVariants as replies
use Rattle.feed_model.specs.declared.reply.Refusal.TheVariants as refusals
use Rattle.feed_model.specs.File.{fault_of}
use Rattle.feed_model.specs.History.{Offered, Piece, History, Answer, is_noted, is_taken, or_else, byte_at, size_of, kept, IsFile, IsGood, IsPassed, IsHeld}
use Rattle.feed_model.specs.Reply.{IsRight, IsRightWith, HoldsNumber, kept_with, missing_below, max_piece}
use Rattle.std.proofs.lemmas.Option.{slice_get_past}
use Rattle.feed_releases.specs.NextRange.{IsNext, IsNextRange}
use Rattle.feed_model.proofs.Names.{name_self, name_cases}
use Rattle.feed_model.proofs.Faults.{empty_bad}
use Rattle.feed_model.proofs.Tests.{same_at}
use Rattle.feed_model.proofs.Moves.{added_size}
use Rattle.feed_model.proofs.Bytes.{some_none, byte_at-some, slice_some}
use Rattle.feed_model.proofs.Growth.{kept_here, keeps_but}
use Rattle.feed_model.proofs.Others.{SameBut, good_other, good_back}
use Rattle.feed_fetch.proofs.Gaps.{IsFilledNext}
use Rattle.feed_fetch.specs.Effects.{IsFetchable, IsOpenTo, IsFilling, IsAskedNext, missing_of}

-- a step that touches the release alone makes it no passed one
passed_back : (n : Name) (h k : History) → SameBut n h k → IsPassed k n → IsPassed h n
passed_back n h k s p = (p.0, (good_back n p.0 h k s apart p.1.0, latest), p.2)
  where
    apart : p.0 ≢ n
    apart e = let lt : n.day <ℤ p.0.day = p.2.1 in let d : p.0.day ≡ n.day = ap (λ (m : Name). m.day) e in absurd (omega (arith, ints))

    latest : (m : Name) → m.package_name ≡ p.0.package_name → IsGood h m → m.day ≤ℤ p.0.day
    latest m e g = by (name_cases m n)
      where
        by : (m ≡ n) ⊎ (m ≢ n) → m.day ≤ℤ p.0.day
        by (inl same) = let lt : n.day <ℤ p.0.day = p.2.1 in let d : m.day ≡ n.day = ap (λ (x : Name). x.day) same in omega (arith, ints)
        by (inr other) = p.1.1 m e (good_other n m h k s other g)

offers_but : (n : Name) (s : ℕ) (a : Answer) (h : History) → SameBut n h ((Offered n s, a) ∷ h)
offers_but n s a h = record { size = λ m apart. by m apart (is_noted a) refl; bytes = λ m apart place. refl }
  where
    by : (m : Name) → m ≢ n → (b : Bool) → is_noted a ≡ b → size_of ((Offered n s, a) ∷ h) m ≡ size_of h m
    by m apart true e = added_size n m s a h e apart
    by m apart false e = rw e refl

offer_keeps : {most : ℕ} (h : History) (n : Name) (file : List ℕ) (a : Answer) → IsOpenTo most n file h → size_of ((Offered n (length file), a) ∷ h) n ≡ Some (length file)
    → IsFilling n file ((Offered n (length file), a) ∷ h)
offer_keeps h n file a ready size = record { current = λ p. ready.current (passed_back n h ((Offered n (length file), a) ∷ h) (offers_but n (length file) a h) p); size = size; bytes = ready.bytes }

-- an answer that refuses because memory ran out or the device failed
abbrev pub IsRefusedFor : Answer → Type 0
IsRefusedFor a = (a ≡ Err refusals.Memory) ⊎ (a ≡ Err refusals.Device)

sized : (o : Option ℕ) (k : ℕ) → IsSome o → IfSome o (λ size. size ≡ k) → o ≡ Some k
sized None k some is = absurd (let u : false ≡ true = some in cc)
sized (Some s) k some is = ap (λ (x : ℕ). Some x) is

no_bytes : (file : List ℕ) → length file ≡ 0 → fault_of file ≡ None → ⊥
no_bytes [] e good = empty_bad good
no_bytes (x ∷ xs) e good = absurd (omega arith)

-- what the offer of the file is answered
pub offer_fills : {most : ℕ} (h : History) (n : Name) (file : List ℕ) (a : Answer) → IsFetchable file → IsOpenTo most n file h → IsRightWith most h (Offered n (length file)) a
    → (((a ≡ Ok replies.Noted) ⊎ (a ≡ Ok replies.Known)) × IsFilling n file ((Offered n (length file), a) ∷ h)) ⊎ IsRefusedFor a
offer_fills h n file a fit ready (inl x) = absurd (omega (arith, x.0, fit.small))
offer_fills h n file a fit ready (inr (x, inl y)) = absurd (ready.current y.0)
offer_fills h n file a fit ready (inr (x, inr (y, inl (held, inl (e, is))))) =
    inl (inr is, offer_keeps h n file a ready (subst (λ (b : Answer). size_of ((Offered n (length file), b) ∷ h) n ≡ Some (length file)) (sym is) e))
offer_fills h n file a fit ready (inr (x, inr (y, inl (held, inr (ne, is))))) = absurd (ne (sized (size_of h n) (length file) held.0 ready.size))
offer_fills {most = most} h n file a fit ready (inr (x, inr (y, inr (out, inl (full, is))))) = absurd (by ready.room)
  where
    by : IsHeld h n ⊎ (¬ (HoldsNumber h most)) → ⊥
    by (inl held) = out held
    by (inr room) = room full
offer_fills h n file a fit ready (inr (x, inr (y, inr (out, inr (room, inl (none, is)))))) = absurd (no_bytes file none fit.good)
offer_fills h n file a fit ready (inr (x, inr (y, inr (out, inr (room, inr (some, inl is)))))) =
    inl (inl is, offer_keeps h n file a ready (subst (λ (b : Answer). size_of ((Offered n (length file), b) ∷ h) n ≡ Some (length file)) (sym is) (rw (name_self n) refl)))
offer_fills h n file a fit ready (inr (x, inr (y, inr (out, inr (room, inr (some, inr refused)))))) = inr refused

-- fewer places are missing where one more has a byte
missing_most : (f g : ℕ → Option ℕ) → ((p : ℕ) → IsSome (f p) → IsSome (g p)) → (n : ℕ) → missing_below g n ≤ missing_below f n
missing_most f g more zero = omega arith
missing_most f g more (suc n) = by (f n) (g n) refl refl (missing_most f g more n)
  where
    by : (x y : Option ℕ) → f n ≡ x → g n ≡ y → missing_below g n ≤ missing_below f n → missing_below g (suc n) ≤ missing_below f (suc n)
    by x (Some b) e d rest = rw d (omega (arith, rest))
    by None None e d rest = rw (e, d) (omega (arith, rest))
    by (Some b) None e d rest = absurd (some_none (g n) (more n (subst IsSome (sym e) refl)) d)

missing_less : (f g : ℕ → Option ℕ) → ((p : ℕ) → IsSome (f p) → IsSome (g p)) → (n place : ℕ) → place < n → f place ≡ None → IsSome (g place)
    → missing_below g n < missing_below f n
missing_less f g more zero place lt none some = absurd (omega arith)
missing_less f g more (suc n) place lt none some = by (grind arith) (λ less. missing_less f g more n place less none some)
  where
    here : (y : Option ℕ) → g n ≡ y → f n ≡ None → IsSome (g n) → missing_below g (suc n) < missing_below f (suc n)
    here (Some b) d e s = rw (d, e) (omega (arith, missing_most f g more n))
    here None d e s = some_none (g n) s d

    step : (x y : Option ℕ) → f n ≡ x → g n ≡ y → missing_below g n < missing_below f n → missing_below g (suc n) < missing_below f (suc n)
    step x (Some b) e d rest = rw d (omega (arith, rest))
    step None None e d rest = rw (e, d) (omega (arith, rest))
    step (Some b) None e d rest = absurd (some_none (g n) (more n (subst IsSome (sym e) refl)) d)

    by : (place ≡ n) ⊎ (place < n) → (place < n → missing_below g n < missing_below f n) → missing_below g (suc n) < missing_below f (suc n)
    by (inl same) again = here (g n) refl (subst (λ (p : ℕ). f p ≡ None) same none) (subst (λ (p : ℕ). IsSome (g p)) same some)
    by (inr less) again = step (f n) (g n) refl refl (again less)

get_take : (xs : List ℕ) (count i y : ℕ) → slice_get (take count xs) i ≡ Some y → slice_get xs i ≡ Some y
get_take [] zero i y e = e
get_take [] (suc count) i y e = e
get_take (x ∷ xs) zero i y e = absurd (let u : None ≡ Some y = e in cc)
get_take (x ∷ xs) (suc count) zero y e = e
get_take (x ∷ xs) (suc count) (suc i) y e = get_take xs count i y e

get_drop : (xs : List ℕ) (at i y : ℕ) → slice_get (drop at xs) i ≡ Some y → slice_get xs (at + i) ≡ Some y
get_drop xs zero i y e = let same : 0 + i ≡ i = omega arith in rw same e
get_drop [] (suc at) i y e = absurd (let u : None ≡ Some y = e in cc)
get_drop (x ∷ xs) (suc at) i y e = let same : suc at + i ≡ suc (at + i) = omega arith in rw same (get_drop xs at i y e)

-- a slice has the bytes of its file
pub slice_at : (file : List ℕ) (first end place y : ℕ) → byte_at first (slice_range file first end) place ≡ Some y → slice_get file place ≡ Some y
slice_at file first end place y e = by (nat_le first place) refl e
  where
    by : (b : Bool) → nat_le first place ≡ b → cond b (slice_get (slice_range file first end) (place - first)) None ≡ Some y → slice_get file place ≡ Some y
    by true le s =
        let low : first ≤ place = grind (arith, nat_tests) in
        let same : first + (place - first) ≡ place = omega arith in
        subst (λ (p : ℕ). slice_get file p ≡ Some y) same (get_drop file first (place - first) y (get_take (drop first file) (end - first) (place - first) y s))
    by false le s = absurd (cc)

or_else-more : (a b : Option ℕ) → IsSome a → IsSome (or_else a b)
or_else-more (Some x) b s = s
or_else-more None b s = absurd (let u : false ≡ true = s in cc)

or_else-second : (a b : Option ℕ) → a ≡ None → IsSome b → IsSome (or_else a b)
or_else-second None b e s = s
or_else-second (Some x) b e s = absurd (cc)

or_else-either : (a b : Option ℕ) (y : ℕ) → or_else a b ≡ Some y → (a ≡ Some y) ⊎ (b ≡ Some y)
or_else-either (Some x) b y e = inl e
or_else-either None b y e = inr e

or_else-none : (a : Option ℕ) → or_else a None ≡ a
or_else-none (Some x) = refl
or_else-none None = refl

-- no byte behind a piece
byte_at_past : (first : ℕ) (b : List ℕ) (place : ℕ) → first ≤ place → first + length b ≤ place → byte_at first b place ≡ None
byte_at_past first b place from past = by (nat_le first place) refl
  where
    by : (x : Bool) → nat_le first place ≡ x → cond x (slice_get b (place - first)) None ≡ None
    by true e = slice_get_past b (place - first) (omega (arith, past))
    by false e = refl

-- what is known of a range that is asked for
pub few_places : (h : History) (n : Name) (file : List ℕ) (piece first last : ℕ) → IsAskedNext n file piece first last h → last < first + max_piece
few_places h n file piece first last asked = let w = asked.next.few in let m = asked.most in omega (arith, w, m)

first_missing : (h : History) (n : Name) (file : List ℕ) (piece first last : ℕ) → IsAskedNext n file piece first last h → kept h n first ≡ None
first_missing h n file piece first last asked = asked.next.missing first (omega arith) asked.next.order

-- the piece is that of the file, which is kept after it
pub record IsFilledWith (n : Name) (file : List ℕ) (first last : ℕ) (h k : History) : Type 0 where
  pub filling : IsFilling n file k
  pub fewer : missing_of n file k < missing_of n file h
  pub next : IsFilledNext (kept h n) (kept k n) first last

with_piece : (h : History) (n : Name) (file : List ℕ) (first last : ℕ) (total : Option ℕ) (b : List ℕ) (place y : ℕ) → b ≡ slice_range file first (last + 1) → IsFilling n file h
    → kept_with h n first b place ≡ Some y → slice_get file place ≡ Some y
with_piece h n file first last total b place y is fill e = by (or_else-either (kept h n place) (byte_at first b place) y e)
  where
    by : (kept h n place ≡ Some y) ⊎ (byte_at first b place ≡ Some y) → slice_get file place ≡ Some y
    by (inl had) = fill.bytes place y had
    by (inr new) = slice_at file first (last + 1) place y (subst (λ (x : List ℕ). byte_at first x place ≡ Some y) is new)

filled_with : (h : History) (n : Name) (file : List ℕ) (piece first last : ℕ) (b : List ℕ) (a : Answer) → b ≡ slice_range file first (last + 1) → length b ≡ last + 1 - first
    → IsAskedNext n file piece first last h → is_taken a ≡ true → IsFilledWith n file first last h ((Piece n first (Some (length file)) b, a) ∷ h)
filled_with h n file piece first last b a is len asked taken = record {
  filling = record {
    current = λ p. asked.filling.current (passed_back n h k (keeps_but h n first (Some (length file)) b a) p);
    size = asked.filling.size;
    bytes = λ place y e. with_piece h n file first last (Some (length file)) b place y is asked.filling (sym (here place) ∙ e);
  };
  fewer = missing_less (kept h n) (kept k n) (λ p s. subst IsSome (sym (here p)) (or_else-more (kept h n p) (byte_at first b p) s))
      (length file) first (omega (arith, asked.next.order, asked.next.within))
      (first_missing h n file piece first last asked)
      (subst IsSome (sym (here first)) (or_else-second (kept h n first) (byte_at first b first) (first_missing h n file piece first last asked)
      (byte_at-some first b first (omega arith) (omega (arith, len, asked.next.order)))));
  next = record { below = below; above = above };
}
  where
    k : History
    k = (Piece n first (Some (length file)) b, a) ∷ h

    here : (place : ℕ) → kept k n place ≡ kept_with h n first b place
    here place = kept_here h n first (Some (length file)) b a taken place

    -- the places of the range, and those before it, which no gap is left in
    below : (place : ℕ) → place ≤ last → IsSome (kept k n place)
    below place le = by (nat_lt place first) refl
      where
        by : (x : Bool) → nat_lt place first ≡ x → IsSome (kept k n place)
        by true e = subst IsSome (sym (here place)) (or_else-more (kept h n place) (byte_at first b place) (asked.next.before place (grind (arith, nat_tests, e))))
        by false e =
            let from : first ≤ place = grind (arith, nat_tests, e) in
            subst IsSome (sym (here place)) (or_else-second (kept h n place) (byte_at first b place) (asked.next.missing place from le)
            (byte_at-some first b place from (omega (arith, len, le, asked.next.order))))

    above : (place : ℕ) → last < place → kept h n place ≡ kept k n place
    above place gt = sym (here place ∙ ap (or_else (kept h n place)) (byte_at_past first b place (omega (arith, gt, asked.next.order)) (omega (arith, len, gt, asked.next.order)))
        ∙ or_else-none (kept h n place))

same_some : (a b : Option ℕ) (x y : ℕ) → a ≡ Some x → a ≡ Some y → x ≡ y
same_some a b x y e d = cc

some_of : (o : Option ℕ) → IsSome o → (y : ℕ) × (o ≡ Some y)
some_of (Some y) s = (y, refl)
some_of None s = absurd (let u : false ≡ true = s in cc)

-- the file is whole where each place has a byte
pub whole_file : (h : History) (n : Name) (file : List ℕ) → IsFilling n file h → ((place : ℕ) → place < length file → IsSome (kept h n place)) → IsFile h n file
whole_file h n file fill all = (fill.size, λ place lt. (let y = some_of (kept h n place) (all place lt) in y.1 ∙ sym (fill.bytes place y.0 y.1)))

-- what is asked for next
pub asked_next : (h : History) (n : Name) (file : List ℕ) (max first last : ℕ) (range : Option (ℕ × ℕ)) → range ≡ Some (first, last) → 1 ≤ max → max ≤ max_piece → IsFilling n file h
    → IsNextRange h n max range → IsAskedNext n file max first last h
asked_next h n file max first last range is least few fill next = by (subst (IsNextRange h n max) is next)
  where
    by : IsNextRange h n max (Some (first, last)) → IsAskedNext n file max first last h
    by (inl (out, none)) = absurd (cc)
    by (inr (held, size, of, at)) =
        let e : Some size ≡ Some (length file) = sym of ∙ fill.size in
        let count : size ≡ length file = cc in
        record { filling = fill; least = least; most = few; next = subst (λ (s : ℕ). IsNext (kept h n) s max first last) count at }

pub nothing_next : (h : History) (n : Name) (file : List ℕ) (max : ℕ) (range : Option (ℕ × ℕ)) → range ≡ None → 1 ≤ max → IsFilling n file h → IsNextRange h n max range
    → IsFile h n file
nothing_next h n file max range is least fill next = by (subst (IsNextRange h n max) is next)
  where
    by : IsNextRange h n max None → IsFile h n file
    by (inl (out, none)) = absurd (out (subst IsSome (sym fill.size) refl, fill.current))
    by (inr (held, size, of, inl zero')) = absurd (omega arith)
    by (inr (held, size, of, inr all)) =
        let e : Some size ≡ Some (length file) = sym of ∙ fill.size in
        let count : size ≡ length file = cc in
        whole_file h n file fill (λ place lt. all place (omega (arith, lt, count)))

-- what the next piece of the file is answered
pub piece_fills : (h : History) (n : Name) (file : List ℕ) (piece first last : ℕ) (b : List ℕ) (a : Answer) → IsFetchable file → IsAskedNext n file piece first last h
    → b ≡ slice_range file first (last + 1) → IsRight h (Piece n first (Some (length file)) b) a
    → ((((missing : ℕ) × (a ≡ Ok (replies.Stored missing))) ⊎ (a ≡ Ok replies.Activated))
    × IsFilledWith n file first last h ((Piece n first (Some (length file)) b, a) ∷ h)) ⊎ IsRefusedFor a
piece_fills h n file piece first last b a fit asked is right = by right
  where
    len : length b ≡ last + 1 - first
    len = ap length is ∙ length-slice_range file first (last + 1) (omega (arith, asked.next.order)) (omega (arith, asked.next.within))

    by : IsRight h (Piece n first (Some (length file)) b) a → ((((missing : ℕ) × (a ≡ Ok (replies.Stored missing))) ⊎ (a ≡ Ok replies.Activated)) × IsFilledWith n file first last h
        ((Piece n first (Some (length file)) b, a) ∷ h)) ⊎ IsRefusedFor a
    by (inl (inl none, e)) = absurd (omega (arith, len, asked.next.order))
    by (inl (inr many, e)) = absurd (omega (arith, len, few_places h n file piece first last asked))
    by (inr (x, inl y)) = absurd (asked.filling.current y.0)
    by (inr (x, inr (y, inl z))) = absurd (z.0 (subst IsSome (sym asked.filling.size) refl, y))
    by (inr (x, inr (y, inr (z, inl w)))) = absurd (w.0 asked.filling.size)
    by (inr (x, inr (y, inr (z, inr (w, inl v))))) = absurd (let past = rw asked.filling.size at v.0 in omega (arith, past, len, asked.next.within, asked.next.order))
    by (inr (x, inr (y, inr (z, inr (w, inr (v, inl ((place, p, q, e, d, ne), u))))))) =
        absurd (ne (same_some (slice_get file place) None p q (asked.filling.bytes place p e) (slice_at file first (last + 1) place q (subst (λ (t : List ℕ). byte_at first t place ≡ Some q) is
        d))))
    by (inr (x, inr (y, inr (z, inr (w, inr (v, inr (u, inl t))))))) =
        absurd (some_none (kept h n first) (t.0 first (byte_at-some first b first (omega arith) (omega (arith, len, asked.next.order)))) (first_missing h n file piece first last asked))
    by (inr (x, inr (y, inr (z, inr (w, inr (v, inr (u, inr (t, inl (size, s, inl q))))))))) =
        inl (inl (_, q.1), filled_with h n file piece first last b a is len asked (ap is_taken q.1))
    by (inr (x, inr (y, inr (z, inr (w, inr (v, inr (u, inr (t, inl (size, s, inr (q, (text, long, at, e))))))))))) =
        let sizes : Some size ≡ Some (length file) = sym s ∙ asked.filling.size in
        let count : size ≡ length file = cc in
        let same : text ≡ file = same_at text file (long ∙ count) (λ place lt. bytes text place (at place (omega (arith, long, lt))) (slice_some text place lt)) in
        let active : a ≡ Ok replies.Activated = (let f : fault_of text ≡ None = ap fault_of same ∙ fit.good in rw f at e) in
        inl (inr active, filled_with h n file piece first last b a is len asked (ap is_taken active))
      where
        bytes : (text : List ℕ) (place : ℕ) → kept_with h n first b place ≡ slice_get text place → IsSome (slice_get text place) → slice_get text place ≡ slice_get file place
        bytes text place e some = let y = some_of (slice_get text place) some in y.1 ∙ sym (with_piece h n file first last (Some (length file)) b place y.0 is asked.filling (e ∙ y.1))
    by (inr (x, inr (y, inr (z, inr (w, inr (v, inr (u, inr (t, inr refused)))))))) = inr refused
