-- Sums over the slots of a table.
use Rattle.std.proofs.Common.{◌≡◌, ◌≢◌, ◌+◌, ◌<◌, ◌≤◌, ℕ, suc, List, [], ◌∷◌, length, get_or, set, cond, Option, Some, None, is_some, sum_by, count_by, refl, sym, ap, ◌∙◌, arith, inl, inr}
use Rattle.std.proofs.lemmas.Bool.{cases_eq}
use Rattle.std.proofs.lemmas.List.{get_or-set_same, get_or-set_other, get_or_past}
use Rattle.std.proofs.lemmas.List.Sums.{sum_by-set, sum_by-cons}

module _ {X : Type 0} (f : Option X → ℕ) (empty : f None ≡ 0) where
  -- slots without a value have no sum
  pub sum_of_none : (slots : List (Option X)) → count_by is_some slots ≡ 0 → sum_by f slots ≡ 0
  sum_of_none [] none = refl
  sum_of_none (None ∷ rest) none =
      let here : count_by is_some (None ∷ rest) ≡ 0 + count_by is_some rest = sum_by-cons (λ slot. cond (is_some slot) 1 0) None rest in
      let rest_is : sum_by f rest ≡ 0 = sum_of_none rest (omega (arith, here, none)) in
      omega (arith, empty, rest_is, sum_by-cons f None rest)
  sum_of_none (Some value ∷ rest) none =
      let here : count_by is_some (Some value ∷ rest) ≡ 1 + count_by is_some rest = sum_by-cons (λ slot. cond (is_some slot) 1 0) (Some value) rest in
      absurd (omega (arith, here, none))

  -- a slot with a value is in the list
  pub within : (slots : List (Option X)) (key : ℕ) (value : X) → get_or slots key None ≡ Some value → key < length slots
  within slots key value there = grind (arith, get_or_past)

  -- a slot counts once
  pub sum_of_slot : (slots : List (Option X)) (key : ℕ) (value : X) → get_or slots key None ≡ Some value → f (Some value) ≤ sum_by f slots
  sum_of_slot slots key value there =
      let whole = sum_by-set f slots key None None (within slots key value there) in
      let is : f (get_or slots key None) ≡ f (Some value) = ap f there in
      omega (arith, whole, is, empty)

  -- a write of a slot
  pub sum_of_write : (slots : List (Option X)) (key : ℕ) (old : X) (slot : Option X) → get_or slots key None ≡ Some old
      → sum_by f (set slots key slot) + f (Some old) ≡ sum_by f slots + f slot
  sum_of_write slots key old slot there =
      let whole = sum_by-set f slots key slot None (within slots key old there) in
      let is : f (get_or slots key None) ≡ f (Some old) = ap f there in
      omega (arith, whole, is)

  -- lists with the same slots have the same sum
  pub sum_of_same : (these those : List (Option X)) → ((key : ℕ) → get_or these key None ≡ get_or those key None) → sum_by f these ≡ sum_by f those
  sum_of_same [] [] same = refl
  sum_of_same [] (slot ∷ rest) same =
      let head : f slot ≡ 0 = ap f (sym (same 0)) ∙ empty in
      let tail = sum_of_same [] rest (λ key. same (suc key)) in
      omega (arith, head, tail, sum_by-cons f slot rest)
  sum_of_same (slot ∷ rest) [] same =
      let head : f slot ≡ 0 = ap f (same 0) ∙ empty in
      let tail = sum_of_same rest [] (λ key. same (suc key)) in
      omega (arith, head, tail, sum_by-cons f slot rest)
  sum_of_same (slot ∷ rest) (other ∷ more) same =
      let head : f slot ≡ f other = ap f (same 0) in
      let tail = sum_of_same rest more (λ key. same (suc key)) in
      omega (arith, head, tail, sum_by-cons f slot rest, sum_by-cons f other more)

  -- a vacant slot is filled
  pub sum_of_insert : (old new : List (Option X)) (key : ℕ) (value : X) → get_or old key None ≡ None → get_or new key None ≡ Some value
      → ((other : ℕ) → other ≢ key → get_or new other None ≡ get_or old other None) → sum_by f new ≡ sum_by f old + f (Some value)
  sum_of_insert old new key value vacant there others =
      let cleared = sum_of_write new key value None there in
      let same = sum_of_same (set new key None) old (λ other. elim (cases_eq other key) [
        | inl is ↦ ap (λ k. get_or (set new key None) k None) is ∙ get_or-set_same new key None None (within new key value there) ∙ sym vacant ∙ ap (λ k. get_or old k None) (sym is)
        | inr differs ↦ get_or-set_other new key other None None differs ∙ others other differs
      ]) in
      omega (arith, cleared, same, empty)
