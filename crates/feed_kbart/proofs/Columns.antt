-- The part of a column that belongs to one number.
use Rattle.std.proofs.Common.{◌≡◌, ◌<◌, ◌≤◌, ◌-◌, ℕ, zero, suc, true, false, eqb, ltb, leb, List, [], ◌∷◌, map, length, take, drop, refl, ap, arith}
use Rattle.std.specs.List.{filter}
use Rattle.std.specs.List.Sorted.{IsNonDecreasing, IsNonDecreasingBy, IsPartitionPoint}
use Rattle.std.proofs.lemmas.Bool.Decides.{nat_tests}
use Rattle.std.proofs.lemmas.List.{get_or-map, length-map}
use Rattle.feed_kbart.specs.Index.{places_beside}
use Rattle.feed_kbart.specs.declared.entry.Entry.{Entry}

at_once : (n m : ℕ) → ltb m n ≡ false → leb m n ≡ true → eqb m n ≡ true
at_once n m h g = grind (arith, nat_tests)

below_not_at : (n m : ℕ) → ltb m n ≡ true → eqb m n ≡ false
below_not_at n m h = grind (arith, nat_tests)

above_not_at : (n m : ℕ) → leb m n ≡ false → eqb m n ≡ false
above_not_at n m h = grind (arith, nat_tests)

below_within : (n m : ℕ) → ltb m n ≡ true → leb m n ≡ false → ⊥
below_within n m h g = grind (arith, nat_tests)

-- the first place whose number is not below n, and the first whose number is above it
abbrev pub Starts : ℕ → List ℕ → ℕ → Type 0
Starts n numbers i = IsPartitionPoint (λ m. ltb m n ≡ true) (λ m. ltb m n ≡ false) numbers i

abbrev pub Ends : ℕ → List ℕ → ℕ → Type 0
Ends n numbers i = IsPartitionPoint (λ m. leb m n ≡ true) (λ m. leb m n ≡ false) numbers i

pub in_order : (n : ℕ) (numbers : List ℕ) (i j : ℕ) → i ≤ length numbers → Starts n numbers i → Ends n numbers j → i ≤ j
in_order n numbers i j within starts ends = elim (leb i j) as (λ b. leb i j ≡ b → i ≤ j) [
  | true ↦ λ e. grind (arith, nat_tests)
  | false ↦ λ e.
      let less : j < i = grind (arith, nat_tests) in
      absurd (below_within n _ (starts.0 j 0 (omega arith) less) (ends.1 j 0 (omega arith) (omega arith)))
] refl

pub part_beside : (n : ℕ) (numbers places : List ℕ) (i j : ℕ) → length places ≡ length numbers → i ≤ length numbers → j ≤ length numbers
    → Starts n numbers i → Ends n numbers j → take (j - i) (drop i places) ≡ places_beside n numbers places
part_beside n [] [] zero zero even h g starts ends = refl
part_beside n [] [] (suc i) j even h g starts ends = absurd (omega arith)
part_beside n [] [] zero (suc j) even h g starts ends = absurd (omega arith)
part_beside n [] (place ∷ places) i j even h g starts ends = absurd (omega arith)
part_beside n (m ∷ numbers) [] i j even h g starts ends = absurd (omega arith)
part_beside n (m ∷ numbers) (place ∷ places) (suc i) zero even h g starts ends =
    absurd (below_within n m (starts.0 0 0 (omega arith) (omega arith)) (ends.1 0 0 (omega arith) (omega arith)))
part_beside n (m ∷ numbers) (place ∷ places) zero zero even h g starts ends =
    rw (above_not_at n m (ends.1 0 0 (omega arith) (omega arith)))
    (part_beside n numbers places zero zero (omega arith) (omega arith) (omega arith)
    ((λ k d p q. absurd (omega arith)), (λ k d p q. starts.1 (suc k) d (omega arith) (omega (arith, q))))
    ((λ k d p q. absurd (omega arith)), (λ k d p q. ends.1 (suc k) d (omega arith) (omega (arith, q)))))
part_beside n (m ∷ numbers) (place ∷ places) zero (suc j) even h g starts ends =
    let whole : suc j - 0 ≡ suc j = omega arith in
    let rest : j - 0 ≡ j = omega arith in
    let more = part_beside n numbers places zero j (omega arith) (omega arith) (omega arith)
    ((λ k d p q. absurd (omega arith)), (λ k d p q. starts.1 (suc k) d (omega arith) (omega (arith, q))))
    ((λ k d p q. ends.0 (suc k) d (omega arith) (omega (arith, q))), (λ k d p q. ends.1 (suc k) d (omega (arith, p)) (omega (arith, q)))) in
    rw (whole, at_once n m (starts.1 0 0 (omega arith) (omega arith)) (ends.0 0 0 (omega arith) (omega arith)))
    (ap (λ ps. place ∷ ps) (rw rest at more))
part_beside n (m ∷ numbers) (place ∷ places) (suc i) (suc j) even h g starts ends =
    let less : suc j - suc i ≡ j - i = omega arith in
    rw (less, below_not_at n m (starts.0 0 0 (omega arith) (omega arith)))
    (part_beside n numbers places i j (omega arith) (omega arith) (omega arith)
    ((λ k d p q. starts.0 (suc k) d (omega arith) (omega (arith, q))), (λ k d p q. starts.1 (suc k) d (omega (arith, p)) (omega (arith, q))))
    ((λ k d p q. ends.0 (suc k) d (omega arith) (omega (arith, q))), (λ k d p q. ends.1 (suc k) d (omega (arith, p)) (omega (arith, q)))))

-- the columns of entries
pub beside_entries : (n : ℕ) (entries : List Entry)
    → places_beside n (map (λ e. e.number) entries) (map (λ e. e.place) entries) ≡ map (λ e. e.place) (filter (λ e. eqb e.number n) entries)
beside_entries n [] = refl
beside_entries n (entry ∷ entries) = elim (eqb entry.number n) as (λ b. eqb entry.number n ≡ b
    → places_beside n (map (λ e. e.number) (entry ∷ entries)) (map (λ e. e.place) (entry ∷ entries)) ≡ map (λ e. e.place) (filter (λ e. eqb e.number n) (entry ∷ entries))) [
      | true ↦ λ e. rw e (ap (λ ps. entry.place ∷ ps) (beside_entries n entries))
      | false ↦ λ e. rw e (beside_entries n entries)
    ] refl

pub column_ascends : (entries : List Entry) → IsNonDecreasingBy (λ e. e.number) entries → IsNonDecreasing (map (λ e. e.number) entries)
column_ascends [] up i j d h g = absurd (omega arith)
column_ascends (entry ∷ entries) up i j d h g =
    let within : j < length (entry ∷ entries) = rw (length-map (entry ∷ entries) (λ (e : Entry). e.number)) at g in
    rw (get_or-map (λ (e : Entry). e.number) (entry ∷ entries) i entry d (omega arith), get_or-map (λ (e : Entry). e.number) (entry ∷ entries) j entry d within)
    (up i j entry h within)
