-- Two sorted runs: the second is moved to its place in the first, and sorted with the range that it falls in.
use Rattle.std.proofs.Common.{◌≡◌, ◌<◌, ◌≤◌, ◌+◌, ◌-◌, ◌++◌, ◌⊎◌, inl, inr, max, ℕ, true, false}
use Rattle.std.proofs.Common.{ltb, List, [], length, get_or, take, drop, All, IsPermutation, append-nil, append_assoc}
use Rattle.std.proofs.Common.{length-append, length-take, length-drop, get_or-take, get_or-drop, take_at, drop_at, take-take, drop-drop, refl, sym, ◌∙◌, ap, ap₂, subst, arith}
use Rattle.std.specs.List.{AllWithin}
use Rattle.std.specs.List.Sorted.{IsNonDecreasingBy}
use Rattle.std.proofs.lemmas.Bool.{cases_lt, ltb-true, ltb-false}
use Rattle.std.proofs.lemmas.List.{take_rest, drop_all, take-append-le, drop-append-le, get_or_append_left, get_or-append_right, get_or_default}
use Rattle.std.proofs.lemmas.List.Elements.{All-append, All-weaker}
use Rattle.std.proofs.lemmas.List.Sorted.{All-permutation}

-- where the runs lie: the second is turned in front of what follows its place
module _ {X : Type 0} (xs ps qs : List X) (joined : xs ≡ ps ++ qs) (begin end : ℕ) (order : begin ≤ end) (inside : end ≤ length ps) where
  pub tail_is : take (length xs - end) (drop end xs) ≡ drop end ps ++ qs
  tail_is = ap (λ ys. take (length ys - end) (drop end ys)) joined ∙ take_rest (ps ++ qs) end ∙ drop-append-le end ps qs inside

  pub turned_is : (count : ℕ) → count ≡ length qs → (turned : List X)
      → turned ≡ drop (length (take (length xs - end) (drop end xs)) - count) (take (length xs - end) (drop end xs)) ++ take (length (take (length xs - end) (drop end xs)) - count)
      (take (length xs - end) (drop end xs)) → turned ≡ qs ++ drop end ps
  turned_is count of turned is =
      let len : length (take (length xs - end) (drop end xs)) ≡ length (drop end ps) + length qs = ap length tail_is ∙ length-append (drop end ps) qs in
      let k : ℕ = length (take (length xs - end) (drop end xs)) - count in
      let at : length (drop end ps) ≡ k = omega (arith, len) in
      is ∙ ap₂ ◌++◌ (ap (drop k) tail_is ∙ drop_at (drop end ps) qs k at) (ap (take k) tail_is ∙ take_at (drop end ps) qs k at)

  -- the list after the turn
  pub after_turn : (turned : List X) → turned ≡ qs ++ drop end ps → take end xs ++ (turned ++ drop (length xs - end) (drop end xs)) ≡ take end ps ++ (qs ++ drop end ps)
  after_turn turned is =
      let front : take end xs ≡ take end ps = ap (take end) joined ∙ take-append-le end ps qs inside in
      let none : drop (length xs - end) (drop end xs) ≡ [] = drop_all (length xs - end) (drop end xs) (omega (arith, length-drop end xs)) in
      ap₂ ◌++◌ front (ap₂ ◌++◌ is none ∙ append-nil (qs ++ drop end ps))

  -- what is sorted
  pub sorted_part : (ys : List X) → ys ≡ take end ps ++ (qs ++ drop end ps) → (k : ℕ) → k ≡ (end + length qs) - begin → take k (drop begin ys) ≡ drop begin (take end ps) ++ qs
  sorted_part ys is k at =
      let len : length (take end ps) ≡ end = omega (arith, length-take end ps) in
      let part : length (drop begin (take end ps) ++ qs) ≡ k = omega (arith, len, at, length-append (drop begin (take end ps)) qs, length-drop begin (take end ps)) in
      let split : drop begin ys ≡ (drop begin (take end ps) ++ qs) ++ drop end ps = ap (drop begin) is ∙ drop-append-le begin (take end ps) (qs ++ drop end ps) (omega (arith, len)) ∙ sym
      (append_assoc (drop begin (take end ps)) qs (drop end ps)) in
      ap (take k) split ∙ take_at (drop begin (take end ps) ++ qs) (drop end ps) k part

  -- the list at the end
  pub after_sort : (ys zs : List X) → ys ≡ take end ps ++ (qs ++ drop end ps) → (k : ℕ) → k ≡ (end + length qs) - begin
      → take begin ys ++ (zs ++ drop k (drop begin ys)) ≡ take begin ps ++ (zs ++ drop end ps)
  after_sort ys zs is k at =
      let len : length (take end ps) ≡ end = omega (arith, length-take end ps) in
      let front : take begin ys ≡ take begin ps = ap (take begin) is ∙ take-append-le begin (take end ps) (qs ++ drop end ps) (omega (arith, len)) ∙ take-take begin end ps order in
      let past : length (take end ps ++ qs) ≡ begin + k = omega (arith, len, at, length-append (take end ps) qs) in
      let back : drop k (drop begin ys) ≡ drop end ps = drop-drop k begin ys ∙ ap (drop (begin + k)) (is ∙ sym (append_assoc (take end ps) qs (drop end ps))) ∙ drop_at (take end ps ++ qs)
      (drop end ps) (begin + k) past in
      ap₂ ◌++◌ front (ap (λ ws. zs ++ ws) back)

-- numbers that rise in two lists, and from the one to the other
module _ {X : Type 0} (n : X → ℕ) where
  pub rise_append : (xs ys : List X) → IsNonDecreasingBy n xs → IsNonDecreasingBy n ys → (t : ℕ) → All (λ x. n x ≤ t) xs → All (λ y. t ≤ n y) ys → IsNonDecreasingBy n (xs ++ ys)
  rise_append xs ys v w t low high i j d le lt = by (cases_lt i (length xs)) (cases_lt j (length xs))
    where
      len : length (xs ++ ys) ≡ length xs + length ys
      len = length-append xs ys

      by : (i < length xs) ⊎ (length xs ≤ i) → (j < length xs) ⊎ (length xs ≤ j) → n (get_or (xs ++ ys) i d) ≤ n (get_or (xs ++ ys) j d)
      by (inl a) (inl b) = rw (get_or_append_left xs ys d i a, get_or_append_left xs ys d j b) (v i j d le b)
      by (inl a) (inr b) =
          let upper = high (j - length xs) d (omega (arith, len)) in
          let lower = low i d a in
          rw (get_or_append_left xs ys d i a, get_or-append_right xs ys (length xs) j d refl b) (omega (arith, upper, lower))
      by (inr a) (inl b) = absurd (omega arith)
      by (inr a) (inr b) = rw (get_or-append_right xs ys (length xs) i d refl a, get_or-append_right xs ys (length xs) j d refl b)
          (w (i - length xs) (j - length xs) d (omega arith) (omega (arith, len)))

  pub rise_take : (k : ℕ) (xs : List X) → IsNonDecreasingBy n xs → IsNonDecreasingBy n (take k xs)
  rise_take k xs w i j d le lt =
      let b : j < k = omega (arith, length-take k xs) in
      let a : i < k = omega arith in
      rw (get_or-take k xs i d a, get_or-take k xs j d b) (w i j d le (omega (arith, length-take k xs)))

  pub rise_drop : (k : ℕ) (xs : List X) → IsNonDecreasingBy n xs → IsNonDecreasingBy n (drop k xs)
  rise_drop k xs w i j d le lt = rw (get_or-drop k xs i d, get_or-drop k xs j d) (w (k + i) (k + j) d (omega arith) (omega (arith, length-drop k xs)))

  taken : (P : X → Type 0) (k : ℕ) (xs : List X) → AllWithin P xs 0 k → All P (take k xs)
  taken P k xs w i d lt = let below : i < k = omega (arith, length-take k xs) in subst P (sym (get_or-take k xs i d below)) (w i d (omega arith) below)

  dropped : (P : X → Type 0) (k : ℕ) (xs : List X) → AllWithin P xs k (length xs) → All P (drop k xs)
  dropped P k xs w i d lt = subst P (sym (get_or-drop k xs i d)) (w (k + i) d (omega arith) (omega (arith, length-drop k xs)))

  -- the sorted range is between what precedes it and what follows it
  pub rise_runs : (ps qs zs : List X) (begin low end from to : ℕ)
      → IsNonDecreasingBy n ps → IsPermutation (drop begin (take end ps) ++ qs) zs → IsNonDecreasingBy n zs
      → All (λ q. from ≤ n q) qs → All (λ q. n q ≤ to) qs → end ≤ length ps → (end ≡ low) ⊎ (end ≡ begin) → begin ≤ end → low ≤ end
      → AllWithin (λ p. n p < from) ps 0 begin → AllWithin (λ p. from ≤ n p) ps begin (length ps)
      → AllWithin (λ p. n p < to) ps 0 low → AllWithin (λ p. to ≤ n p) ps low (length ps)
      → IsNonDecreasingBy n (take begin ps ++ (zs ++ drop end ps))
  rise_runs ps qs zs begin low end from to rise perm sorted above below inside which order least b0 b1 l0 l1 =
      rise_append (take begin ps) (zs ++ drop end ps) (rise_take begin ps rise) (rise_append zs (drop end ps) sorted (rise_drop end ps rise) to zs_low back_high)
      from (All-weaker (λ p. n p < from) (λ p. n p ≤ from) (λ p lt. omega arith) (take begin ps) (taken (λ p. n p < from) begin ps b0))
      (All-append (λ p. from ≤ n p) zs (drop end ps) zs_high back_above)
    where
      middle_above : All (λ p. from ≤ n p) (drop begin (take end ps))
      middle_above i d lt =
          let in' : begin + i < end = omega (arith, length-drop begin (take end ps), length-take end ps) in
          rw (get_or-drop begin (take end ps) i d, get_or-take end ps (begin + i) d in') (b1 (begin + i) d (omega arith) (omega arith))

      middle_below : All (λ p. n p ≤ to) (drop begin (take end ps))
      middle_below i d lt = by which
        where
          in' : begin + i < end
          in' = omega (arith, length-drop begin (take end ps), length-take end ps)

          by : (end ≡ low) ⊎ (end ≡ begin) → n (get_or (drop begin (take end ps)) i d) ≤ to
          by (inl same) =
              let less = l0 (begin + i) d (omega arith) (omega (arith, in')) in
              let under : begin + i < end = in' in
              rw (get_or-drop begin (take end ps) i d, get_or-take end ps (begin + i) d under) (omega (arith, less))
          by (inr same) = absurd (omega (arith, in'))

      zs_high : All (λ p. from ≤ n p) zs
      zs_high = All-permutation (λ p. from ≤ n p) (drop begin (take end ps) ++ qs) zs perm (All-append (λ p. from ≤ n p) (drop begin (take end ps)) qs middle_above above)

      zs_low : All (λ p. n p ≤ to) zs
      zs_low = All-permutation (λ p. n p ≤ to) (drop begin (take end ps) ++ qs) zs perm (All-append (λ p. n p ≤ to) (drop begin (take end ps)) qs middle_below below)

      back_high : All (λ p. to ≤ n p) (drop end ps)
      back_high = dropped (λ p. to ≤ n p) end ps (λ i d le lt. l1 i d (omega arith) lt)

      back_above : All (λ p. from ≤ n p) (drop end ps)
      back_above = dropped (λ p. from ≤ n p) end ps (λ i d le lt. b1 i d (omega arith) lt)

  -- the least and the greatest of the second run
  pub run_head : (kept : ℕ) (xs : List X) (x : X) → kept < length xs → x ≡ get_or xs kept x → IsNonDecreasingBy n (drop kept xs) → All (λ q. n x ≤ n q) (drop kept xs)
  run_head kept xs x in' is rise i d lt =
      let at : kept + 0 ≡ kept = omega arith in
      let head : get_or (drop kept xs) 0 d ≡ x = get_or-drop kept xs 0 d ∙ ap (λ j. get_or xs j d) at ∙ get_or_default xs kept d x in' ∙ sym is in
      subst (λ y. n y ≤ n (get_or (drop kept xs) i d)) head (rise 0 i d (omega arith) lt)

  pub run_last : (kept last : ℕ) (xs : List X) (x : X) → kept ≤ last → last + 1 ≡ length xs → x ≡ get_or xs last x → IsNonDecreasingBy n (drop kept xs)
      → All (λ q. n q ≤ n x) (drop kept xs)
  run_last kept last xs x le len is rise i d lt =
      let at : kept + (last - kept) ≡ last = omega arith in
      let end : get_or (drop kept xs) (last - kept) d ≡ x = get_or-drop kept xs (last - kept) d ∙ ap (λ j. get_or xs j d) at ∙ get_or_default xs last d x (omega arith) ∙ sym is in
      subst (λ y. n (get_or (drop kept xs) i d) ≤ n y) end (rise i (last - kept) d (omega (arith, length-drop kept xs)) (omega (arith, length-drop kept xs)))

pub max_cases : (end low begin : ℕ) → end ≡ max low begin → (end ≡ low) ⊎ (end ≡ begin)
max_cases end low begin is = by (cases_lt low begin)
  where
    by : (low < begin) ⊎ (begin ≤ low) → (end ≡ low) ⊎ (end ≡ begin)
    by (inl lt) = inr (omega arith)
    by (inr ge) = inl (omega arith)

pub tests_pass : {X : Type 0} (n : X → ℕ) (t low high : ℕ) (xs : List X) → AllWithin (λ x. ltb (n x) t ≡ true) xs low high → AllWithin (λ x. n x < t) xs low high
tests_pass n t low high xs w k d ge lt = ltb-true (n (get_or xs k d)) t (w k d ge lt)

pub tests_fail : {X : Type 0} (n : X → ℕ) (t low high : ℕ) (xs : List X) → AllWithin (λ x. ltb (n x) t ≡ false) xs low high → AllWithin (λ x. t ≤ n x) xs low high
tests_fail n t low high xs w k d ge lt = ltb-false (n (get_or xs k d)) t (w k d ge lt)
