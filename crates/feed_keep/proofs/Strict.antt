-- Lists whose elements are each less than those behind it.
use Rattle.std.proofs.Common.{◌≡◌, ◌↔◌, ◌<◌, ◌+◌, suc, Bool, true, false, List, [], ◌∷◌, map, length, get_or, All, IsPermutation, IsTrue, refl, ap, subst, ◌∙◌, arith}
use Rattle.std.specs.List.{AllAdjacentBelow, AllByRecursion, AllPairs, IsAllAdjacentAnswer, IsDistinct}
use Rattle.std.specs.List.Sorted.{IsSorted, IsStrictlySortedBy}
use Rattle.std.specs.Cmp.{IsTotalOrder}
use Rattle.std.specs.Ordering.{eq_by_cmp, is_eq, is_lt, on, ordering_reverse}
use Rattle.std.specs.declared.cmp.Ordering.{Ordering}
use Rattle.std.specs.declared.cmp.Ordering.TheVariants.{Less, Equal, Greater}
use Rattle.std.proofs.lemmas.List.Elements.{All-cons, All-nil}
use Rattle.std.proofs.lemmas.List.Kept.{AllPairs-cons}
use Rattle.std.proofs.lemmas.Map.Keys.{IsDistinct-from_sorted, IsDistinct-head, IsDistinct-IsPermutation, IsDistinct-tail}
use Rattle.feed_keep.proofs.Ascending.{up_pairs}

pub below : (o : Ordering) → true ≡ is_lt o → o ≡ Less
below Less e = refl
below Equal e = absurd (let g : true ≡ false = e in cc)
below Greater e = absurd (let g : true ≡ false = e in cc)

pub not_below : (o : Ordering) → false ≡ is_lt o → ¬ (o ≡ Less)
not_below o e less = let g : false ≡ true = e ∙ ap is_lt less in absurd cc

pub all_by : {X : Type 0} (P : X → Type 0) (xs : List X) → AllByRecursion P xs → All P xs
all_by P [] all = All-nil P
all_by P (x ∷ xs) all = All-cons P x xs all.0 (all_by P xs all.1)

module _ {X : Type 0} (c : X → X → Ordering) (total : IsTotalOrder c) where
  later : (x y : X) (ys : List X) → c x y ≡ Less → AllByRecursion (λ z. c y z ≡ Less) ys → AllByRecursion (λ z. c x z ≡ Less) ys
  later x y [] less all = tt
  later x y (z ∷ zs) less all = (total.trans x y z less all.0, later x y zs less all.1)

  pub strict_from : (xs : List X) → AllAdjacentBelow (λ x y. c x y ≡ Less) xs (length xs) → IsStrictlySortedBy c xs
  unfolding IsStrictlySortedBy
  strict_from [] next = tt
  strict_from (x ∷ []) next = (tt, tt)
  strict_from (x ∷ y ∷ ys) next =
      let rest : IsStrictlySortedBy c (y ∷ ys) = strict_from (y ∷ ys) (λ k d lt.
      let e : suc k + 1 ≡ suc (k + 1) = omega arith in
      subst (λ m. c (get_or (y ∷ ys) k d) (get_or (x ∷ y ∷ ys) m d) ≡ Less) e (next (suc k) d (omega arith))) in
      let first : c x y ≡ Less = next 0 x (omega arith) in
      ((first, later x y ys first rest.0), rest)

  -- what a look at each element and the next says
  pub answered_strict : (xs : List X) (r : Bool) → IsAllAdjacentAnswer (λ x y b. b ≡ is_lt (c x y)) xs r → IsTrue r ↔ IsStrictlySortedBy c xs
  answered_strict xs true h = (λ yes. strict_from xs (λ k d lt. below _ (h k d lt)), λ up. refl)
  answered_strict xs false h = (
    λ yes. absurd (let g : false ≡ true = yes in cc),
    λ up.
        let d : X = first xs (omega (arith, h.1)) in
        absurd (not_below _ (h.2 d) (up_pairs c xs up h.0 (h.0 + 1) d (omega arith) h.1)),
  )
    where
      first : (xs : List X) → 0 < length xs → X
      first [] lt = absurd (omega arith)
      first (x ∷ xs) lt = x

  distinct_pairs : (xs : List X) → IsDistinct (eq_by_cmp c) xs → AllPairs (λ x y. eq_by_cmp c x y ≡ false) xs
  distinct_pairs [] d = λ i j e lt within. absurd (omega arith)
  distinct_pairs (x ∷ xs) d = AllPairs-cons (λ x y. eq_by_cmp c x y ≡ false) x xs (all_by _ xs (IsDistinct-head (eq_by_cmp c) x xs d)) (distinct_pairs xs (IsDistinct-tail (eq_by_cmp c) x xs d))

  which : (o p : Ordering) → o ≡ ordering_reverse p → is_eq o ≡ false → is_lt p ≡ false → o ≡ Less
  which Less p e apart up = refl
  which Equal p e apart up = absurd (let g : true ≡ false = apart in cc)
  which Greater Less e apart up = absurd (let g : true ≡ false = up in cc)
  which Greater Equal e apart up = absurd cc
  which Greater Greater e apart up = absurd cc

  -- in order, and none of them twice
  pub strict_of : (xs : List X) → IsSorted c xs → IsDistinct (eq_by_cmp c) xs → IsStrictlySortedBy c xs
  strict_of xs up d = strict_from xs (λ k e lt.
      which (c (get_or xs k e) (get_or xs (k + 1) e)) (c (get_or xs (k + 1) e) (get_or xs k e)) (total.antisymm _ _)
      (distinct_pairs xs d k (k + 1) e (omega arith) lt) (up k e (omega arith) lt))

  pub apart_of : (xs : List X) → IsStrictlySortedBy c xs → IsDistinct (eq_by_cmp c) xs
  apart_of = IsDistinct-from_sorted c

-- a map that keeps the order
pub strict_map : {X Y : Type 0} (f : X → Y) (c : Y → Y → Ordering) (xs : List X) → IsStrictlySortedBy (on f c) xs → IsStrictlySortedBy c (map f xs)
unfolding IsStrictlySortedBy
strict_map f c [] up = tt
strict_map f c (x ∷ xs) up = (others xs up.0, strict_map f c xs up.1)
  where
    others : (ys : List _) → AllByRecursion (λ y. c (f x) (f y) ≡ Less) ys → AllByRecursion (λ y. c (f x) y ≡ Less) (map f ys)
    others [] all = tt
    others (y ∷ ys) all = (all.0, others ys all.1)

pub strict_unmap : {X Y : Type 0} (f : X → Y) (c : Y → Y → Ordering) (xs : List X) → IsStrictlySortedBy c (map f xs) → IsStrictlySortedBy (on f c) xs
unfolding IsStrictlySortedBy
strict_unmap f c [] up = tt
strict_unmap f c (x ∷ xs) up = (others xs up.0, strict_unmap f c xs up.1)
  where
    others : (ys : List _) → AllByRecursion (λ y. c (f x) y ≡ Less) (map f ys) → AllByRecursion (λ y. c (f x) (f y) ≡ Less) ys
    others [] all = tt
    others (y ∷ ys) all = (all.0, others ys all.1)

turned : (o : Ordering) → is_eq (ordering_reverse o) ≡ is_eq o
turned Less = refl
turned Equal = refl
turned Greater = refl

pub ties_flip : {X : Type 0} (c : X → X → Ordering) → IsTotalOrder c → (x y : X) → eq_by_cmp c x y ≡ eq_by_cmp c y x
ties_flip c total x y = ap is_eq (total.antisymm x y) ∙ turned (c y x)

-- in another order, none of them is there twice either
pub apart_moved : {X : Type 0} (c : X → X → Ordering) → IsTotalOrder c → (xs ys : List X) → IsPermutation xs ys → IsDistinct (eq_by_cmp c) xs → IsDistinct (eq_by_cmp c) ys
apart_moved c total xs ys moved d = IsDistinct-IsPermutation (eq_by_cmp c) (ties_flip c total) xs ys moved d
