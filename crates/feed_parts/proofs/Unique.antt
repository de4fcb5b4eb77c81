-- There is one sorted list of parts that begin at different places.
use Rattle.std.proofs.Common.{if◌then◌else◌, ◌≡◌, ◌<◌, ◌≤◌, ◌+◌, ◌++◌, ◌⊎◌, inl, inr, Bool}
use Rattle.std.proofs.Common.{true, false, eqb, cond, nat_lt, ℕ, suc, List, [], ◌∷◌, get_or, append-nil, All, sum_by}
use Rattle.std.proofs.Common.{IsPermutation, refl, sym, ◌∙◌, ap, subst, arith}
use Rattle.std.specs.List.Sorted.{IsNonDecreasingBy}
use Rattle.std.proofs.lemmas.Bool.{eq-eqb, ne_eqb, cases_eq}
use Rattle.std.proofs.lemmas.List.{map-append}
use Rattle.std.proofs.lemmas.List.Elements.{All-nil, All-head, All-tail, All-cons, All-weaker}
use Rattle.std.proofs.lemmas.List.Sums.{sum_by-cons}
use Rattle.std.proofs.lemmas.List.Sorted.{All-permutation, IsPermutation-refl, IsPermutation-sym, IsPermutation-trans, IsPermutation-cons, IsPermutation-map, IsPermutation-middle}
use Rattle.std.proofs.lemmas.List.Sorted.{IsPermutation-append_left, sum_by-IsPermutation}
use Rattle.feed_model.specs.Content.{Part, end_of, ArePartsFrom, AreParts}
use Rattle.feed_model.specs.Change.{insert_part, merged}
use Rattle.feed_parts.specs.declared.part.Part as code_part
use Rattle.feed_parts.specs.Shown.{shown_part, shown_parts}
use Rattle.feed_parts.proofs.Rest.{all_code}
use Rattle.feed_parts.proofs.Places.{starts_earlier}

-- each part begins behind the start of the one in front of it
abbrev pub RiseFrom : ℕ → List Part → Type 0
RiseFrom at [] = Unit {0}
RiseFrom at (p ∷ ps) = (at ≤ p.first) × RiseFrom (suc p.first) ps

rise_sooner : (at least : ℕ) (ps : List Part) → least ≤ at → RiseFrom at ps → RiseFrom least ps
rise_sooner at least [] le w = tt
rise_sooner at least (p ∷ ps) le w = (omega (arith, w.0), w.1)

pub parts_rise : (at : ℕ) (ps : List Part) → ArePartsFrom at ps → RiseFrom at ps
parts_rise at [] w = tt
parts_rise at (p ∷ ps) w = (w.0, rise_sooner (end_of p) (suc p.first) ps (omega (arith, w.1)) (parts_rise (end_of p) ps w.3))

-- how many parts begin at a place
abbrev starting : ℕ → List Part → ℕ
starting at ps = sum_by (λ p. cond (eqb p.first at) 1 0) ps

starting_cons : (at : ℕ) (p : Part) (ps : List Part) → starting at (p ∷ ps) ≡ cond (eqb p.first at) 1 0 + starting at ps
starting_cons at p ps = sum_by-cons (λ q. cond (eqb q.first at) 1 0) p ps

starting_here : (at : ℕ) (p : Part) (ps : List Part) → p.first ≡ at → starting at (p ∷ ps) ≡ 1 + starting at ps
starting_here at p ps e = starting_cons at p ps ∙ ap (λ b. cond b 1 0 + starting at ps) (eq-eqb p.first at e)

starting_elsewhere : (at : ℕ) (p : Part) (ps : List Part) → (p.first ≡ at → ⊥) → starting at (p ∷ ps) ≡ 0 + starting at ps
starting_elsewhere at p ps e = starting_cons at p ps ∙ ap (λ b. cond b 1 0 + starting at ps) (ne_eqb p.first at e)

none_starting : (at from : ℕ) (ps : List Part) → RiseFrom from ps → at < from → starting at ps ≡ 0
none_starting at from [] w lt = refl
none_starting at from (p ∷ ps) w lt = omega (arith, starting_elsewhere at p ps (λ e. omega (arith, w.0, e)), none_starting at (suc p.first) ps w.1 (omega (arith, w.0)))

one_starting : (at from : ℕ) (ps : List Part) → RiseFrom from ps → starting at ps ≤ 1
one_starting at from [] w = omega arith
one_starting at from (p ∷ ps) w = by (cases_eq p.first at) (one_starting at (suc p.first) ps w.1)
  where
    by : (p.first ≡ at) ⊎ (p.first ≡ at → ⊥) → starting at ps ≤ 1 → starting at (p ∷ ps) ≤ 1
    by (inl e) again = omega (arith, starting_here at p ps e, none_starting at (suc p.first) ps w.1 (omega arith))
    by (inr ne) again = omega (arith, starting_elsewhere at p ps ne, again)

none_there : (at : ℕ) (ps : List Part) → starting at ps ≡ 0 → All (λ p. p.first ≡ at → ⊥) ps
none_there at [] e = All-nil (λ p. p.first ≡ at → ⊥)
none_there at (p ∷ ps) e = by (cases_eq p.first at) (none_there at ps)
  where
    by : (p.first ≡ at) ⊎ (p.first ≡ at → ⊥) → (starting at ps ≡ 0 → All (λ q. q.first ≡ at → ⊥) ps) → All (λ q. q.first ≡ at → ⊥) (p ∷ ps)
    by (inl same) again = absurd (omega (arith, starting_here at p ps same, e))
    by (inr ne) again = All-cons (λ q. q.first ≡ at → ⊥) p ps ne (again (omega (arith, starting_elsewhere at p ps ne, e)))

-- sorted, and no two at one place
sorted_rise : (at : ℕ) (ps : List code_part.Part) → IsNonDecreasingBy (λ p. p.first) ps → All (λ p. at ≤ p.first) ps → ((place : ℕ) → starting place (shown_parts ps) ≤ 1)
    → RiseFrom at (shown_parts ps)
sorted_rise at [] w low one = tt
sorted_rise at (p ∷ ps) w low one = (All-head (λ q. at ≤ q.first) p ps low, sorted_rise (suc p.first) ps tail above fewer)
  where
    tail : IsNonDecreasingBy (λ q. q.first) ps
    tail i j d le lt = w (suc i) (suc j) d (omega arith) (omega arith)

    alone : starting p.first (shown_parts ps) ≡ 0
    alone = omega (arith, starting_here p.first (shown_part p) (shown_parts ps) refl, one p.first)

    above : All (λ q. suc p.first ≤ q.first) ps
    above k d lt =
        let le : p.first ≤ (get_or ps k d).first = w 0 (suc k) d (omega arith) (omega arith) in
        let other : (get_or ps k d).first ≡ p.first → ⊥ = all_code (λ q. q.first ≡ p.first → ⊥) ps (none_there p.first (shown_parts ps) alone) k d lt in
        by le other (cases_eq (get_or ps k d).first p.first)
      where
        by : p.first ≤ (get_or ps k d).first → ((get_or ps k d).first ≡ p.first → ⊥) → ((get_or ps k d).first ≡ p.first) ⊎ ((get_or ps k d).first ≡ p.first → ⊥)
            → suc p.first ≤ (get_or ps k d).first
        by le other (inl e) = absurd (other e)
        by le other (inr ne) = omega (arith, ne)

    fewer : (place : ℕ) → starting place (shown_parts ps) ≤ 1
    fewer place = by (cases_eq p.first place)
      where
        by : (p.first ≡ place) ⊎ (p.first ≡ place → ⊥) → starting place (shown_parts ps) ≤ 1
        by (inl e) = omega (arith, starting_here place (shown_part p) (shown_parts ps) e, one place)
        by (inr ne) = omega (arith, starting_elsewhere place (shown_part p) (shown_parts ps) ne, one place)

-- Lists that rise and have the same parts are one.
abbrev Has : Part → List Part → Type 0
Has x [] = ⊥
Has x (p ∷ ps) = (p ≡ x) ⊎ Has x ps

has_each : (ps : List Part) → All (λ p. Has p ps) ps
has_each [] = All-nil (λ p. Has p [])
has_each (p ∷ ps) = All-cons (λ q. Has q (p ∷ ps)) p ps (inl refl) (All-weaker (λ q. Has q ps) (λ q. Has q (p ∷ ps)) (λ q h. inr h) ps (has_each ps))

has_behind : (at : ℕ) (x : Part) (ps : List Part) → RiseFrom at ps → Has x ps → at ≤ x.first
has_behind at x [] w h = absurd h
has_behind at x (p ∷ ps) w (inl e) = subst (λ q. at ≤ q.first) e w.0
has_behind at x (p ∷ ps) w (inr h) = omega (arith, w.0, has_behind (suc p.first) x ps w.1 h)

without_head : (x : Part) (xs ys : List Part) → RiseFrom (suc x.first) xs → All (λ p. Has p (x ∷ ys)) xs → All (λ p. Has p ys) xs
without_head x xs ys w all k d lt = by (all k d lt)
  where
    behind : suc x.first ≤ (get_or xs k d).first
    behind = has_behind (suc x.first) (get_or xs k d) xs w (has_each xs k d lt)

    by : Has (get_or xs k d) (x ∷ ys) → Has (get_or xs k d) ys
    by (inl e) = absurd (omega (arith, behind, ap (λ p. p.first) e))
    by (inr h) = h

same_list : (a b : ℕ) (xs ys : List Part) → RiseFrom a xs → RiseFrom b ys → All (λ p. Has p ys) xs → All (λ p. Has p xs) ys → xs ≡ ys
same_list a b [] [] v w f g = refl
same_list a b [] (y ∷ ys) v w f g = absurd (All-head (λ p. Has p []) y ys g)
same_list a b (x ∷ xs) [] v w f g = absurd (All-head (λ p. Has p []) x xs f)
same_list a b (x ∷ xs) (y ∷ ys) v w f g = by (All-head (λ p. Has p (y ∷ ys)) x xs f) (All-head (λ p. Has p (x ∷ xs)) y ys g) (same_list (suc x.first) (suc y.first) xs ys v.1 w.1)
  where
    joined : x ≡ y → (All (λ p. Has p ys) xs → All (λ p. Has p xs) ys → xs ≡ ys) → x ∷ xs ≡ y ∷ ys
    joined e again =
        let tails = again
        (without_head x xs ys v.1 (subst (λ z. All (λ p. Has p (z ∷ ys)) xs) (sym e) (All-tail (λ p. Has p (y ∷ ys)) x xs f)))
        (without_head y ys xs w.1 (subst (λ z. All (λ p. Has p (z ∷ xs)) ys) e (All-tail (λ p. Has p (x ∷ xs)) y ys g))) in
        cc

    by : Has x (y ∷ ys) → Has y (x ∷ xs) → (All (λ p. Has p ys) xs → All (λ p. Has p xs) ys → xs ≡ ys) → x ∷ xs ≡ y ∷ ys
    by (inl e) h again = joined (sym e) again
    by (inr k) (inl e) again = joined e again
    by (inr k) (inr h) again = absurd (omega (arith, has_behind (suc y.first) x ys w.1 k, has_behind (suc x.first) y xs v.1 h))

-- the merged list has the parts of both
insert_moves : (q : Part) (ps : List Part) → IsPermutation (q ∷ ps) (insert_part q ps)
insert_moves q [] = IsPermutation-refl (q ∷ [])
insert_moves q (p ∷ ps) = by (nat_lt q.first p.first) (insert_moves q ps)
  where
    by : (b : Bool) → IsPermutation (q ∷ ps) (insert_part q ps) → IsPermutation (q ∷ p ∷ ps) (if b then q ∷ p ∷ ps else p ∷ insert_part q ps)
    by true again = IsPermutation-refl (q ∷ p ∷ ps)
    by false again = IsPermutation-trans (q ∷ p ∷ ps) (p ∷ q ∷ ps) (p ∷ insert_part q ps) (IsPermutation-middle (q ∷ []) p ps) (IsPermutation-cons p (q ∷ ps) (insert_part q ps) again)

pub merged_moves : (ps qs : List Part) → IsPermutation (ps ++ qs) (merged ps qs)
merged_moves ps [] = subst (λ xs. IsPermutation xs ps) (sym (append-nil ps)) (IsPermutation-refl ps)
merged_moves ps (q ∷ qs) =
    IsPermutation-trans (ps ++ q ∷ qs) (q ∷ (ps ++ qs)) (merged (insert_part q ps) qs) (IsPermutation-middle ps q qs)
    (IsPermutation-trans (q ∷ (ps ++ qs)) (insert_part q ps ++ qs) (merged (insert_part q ps) qs) (IsPermutation-append_left qs (q ∷ ps) (insert_part q ps) (insert_moves q ps))
    (merged_moves (insert_part q ps) qs))

-- parts that only moved, and are sorted now, are the merged ones
pub sorted_merged : (old new now : List code_part.Part) → AreParts (merged (shown_parts old) (shown_parts new)) → IsPermutation (old ++ new) now → IsNonDecreasingBy (λ p. p.first) now
    → shown_parts now ≡ merged (shown_parts old) (shown_parts new)
sorted_merged old new now apart moved sorted = same_list 0 0 (shown_parts now) whole rises (parts_rise 0 whole apart) there back
  where
    whole : List Part
    whole = merged (shown_parts old) (shown_parts new)

    moves : IsPermutation (merged (shown_parts old) (shown_parts new)) (shown_parts now)
    moves =
        let both = shown_parts old ++ shown_parts new in
        let split : shown_parts (old ++ new) ≡ both = map-append shown_part old new in
        IsPermutation-trans (merged (shown_parts old) (shown_parts new)) both (shown_parts now)
        (IsPermutation-sym both (merged (shown_parts old) (shown_parts new)) (merged_moves (shown_parts old) (shown_parts new)))
        (subst (λ xs. IsPermutation xs (shown_parts now)) split (IsPermutation-map shown_part (old ++ new) now moved))

    rises : RiseFrom 0 (shown_parts now)
    rises =
        sorted_rise 0 now sorted (λ k d lt. omega arith) (λ place. omega (
          arith,
          sum_by-IsPermutation (λ p. cond (eqb p.first place) 1 0) (merged (shown_parts old) (shown_parts new)) (shown_parts now) moves,
          one_starting place 0
              (merged (shown_parts old) (shown_parts new)) (parts_rise 0 (merged (shown_parts old) (shown_parts new)) apart),
        ))

    back : All (λ p. Has p (shown_parts now)) (merged (shown_parts old) (shown_parts new))
    back =
        All-permutation (λ p. Has p (shown_parts now)) (shown_parts now) (merged (shown_parts old) (shown_parts new))
        (IsPermutation-sym (merged (shown_parts old) (shown_parts new)) (shown_parts now) moves) (has_each (shown_parts now))

    there : All (λ p. Has p (merged (shown_parts old) (shown_parts new))) (shown_parts now)
    there =
        All-permutation (λ p. Has p (merged (shown_parts old) (shown_parts new))) (merged (shown_parts old) (shown_parts new)) (shown_parts now) moves
        (has_each (merged (shown_parts old) (shown_parts new)))

-- the parts before were in order too
parts_from_insert : (at : ℕ) (q : Part) (ps : List Part) → ArePartsFrom at (insert_part q ps) → ArePartsFrom at ps
parts_from_insert at q [] w = tt
parts_from_insert at q (p ∷ ps) w = by (nat_lt q.first p.first) (parts_from_insert (end_of p) q ps) w
  where
    by : (b : Bool) → (ArePartsFrom (end_of p) (insert_part q ps) → ArePartsFrom (end_of p) ps) → ArePartsFrom at (if b then q ∷ p ∷ ps else p ∷ insert_part q ps)
        → ArePartsFrom at (p ∷ ps)
    by true again v = starts_earlier (end_of q) at (p ∷ ps) (omega (arith, v.0)) v.3
    by false again v = (v.0, v.1, v.2, again v.3)

pub parts_from_merged : (at : ℕ) (ps qs : List Part) → ArePartsFrom at (merged ps qs) → ArePartsFrom at ps
parts_from_merged at ps [] w = w
parts_from_merged at ps (q ∷ qs) w = parts_from_insert at q ps (parts_from_merged at (insert_part q ps) qs w)
