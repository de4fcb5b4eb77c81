-- The buckets of a histogram are cumulative.
use Rattle.std.proofs.Common.{◌≡◌, ◌<◌, ◌≤◌, ◌+◌, ℕ, zero, suc, List, [], ◌∷◌, length, Bool, true, false, cond, refl, inl, inr, arith, slice_index}
use Rattle.std.specs.Prelude.{nat_le, ◌&&◌}
use Rattle.std.specs.List.{list_all}
use Rattle.std.proofs.lemmas.Bool.{cases_Bool}
use Rattle.std.proofs.lemmas.Bool.Decides.{nat_tests}
use Rattle.std.proofs.lemmas.List.Sums.{count_by-le-length, sum_by-cons}
use Rattle.node_monitoring.specs.declared.histogram.TheConstants.{BOUNDS}
use Rattle.node_monitoring.specs.Histograms.{HistogramValue, HasObserved, within}

both : (s t : Bool) → (s && t) ≡ true → (s ≡ true) × (t ≡ true)
both true t holds = (refl, holds)
both false t holds = absurd (cc)

le_of : (a b : ℕ) → nat_le a b ≡ true → a ≤ b
le_of a b holds = grind (arith, nat_tests)

-- a bound is not above the later ones
abbrev climbs : List ℕ → Bool
climbs [] = true
climbs (b ∷ bounds) = list_all (λ c. nat_le b c) bounds && climbs bounds

below_all : (b : ℕ) (bounds : List ℕ) → list_all (λ c. nat_le b c) bounds ≡ true → (k : ℕ) → k < length bounds → b ≤ slice_index bounds k
below_all b [] holds k inside = absurd (omega (arith, inside))
below_all b (c ∷ bounds) holds zero inside = le_of b c (both (nat_le b c) (list_all (λ c. nat_le b c) bounds) holds).0
below_all b (c ∷ bounds) holds (suc k) inside = below_all b bounds (both (nat_le b c) (list_all (λ c. nat_le b c) bounds) holds).1 k (omega (arith, inside))

climb : (bounds : List ℕ) → climbs bounds ≡ true → (j k : ℕ) → j ≤ k → k < length bounds → slice_index bounds j ≤ slice_index bounds k
climb [] holds j k order inside = absurd (omega (arith, inside))
climb (b ∷ bounds) holds zero zero order inside = omega arith
climb (b ∷ bounds) holds zero (suc k) order inside = below_all b bounds (both (list_all (λ c. nat_le b c) bounds) (climbs bounds) holds).0 k (omega (arith, inside))
climb (b ∷ bounds) holds (suc j) zero order inside = absurd (omega (arith, order))
climb (b ∷ bounds) holds (suc j) (suc k) order inside =
    climb bounds (both (list_all (λ c. nat_le b c) bounds) (climbs bounds) holds).1 j k (omega (arith, order)) (omega (arith, inside))

one_grows : (x a b : ℕ) → a ≤ b → cond (nat_le x a) 1 0 ≤ cond (nat_le x b) 1 0
one_grows x a b order = elim (cases_Bool (nat_le x b)) [
  | inl far ↦ elim (cases_Bool (nat_le x a)) [
    | inl near ↦ rw (far, near) (omega arith)
    | inr near ↦ rw (far, near) (omega arith)
  ]
  | inr far ↦ elim (cases_Bool (nat_le x a)) [
    | inl near ↦ absurd (grind (arith, nat_tests))
    | inr near ↦ rw (far, near) (omega arith)
  ]
]

within_grows : (a b : ℕ) (observed : List ℕ) → a ≤ b → within a observed ≤ within b observed
within_grows a b [] order = omega arith
within_grows a b (x ∷ observed) order =
    let one = one_grows x a b order in
    let more = within_grows a b observed order in
    let near = sum_by-cons (λ micros. cond (nat_le micros a) 1 0) x observed in
    let far = sum_by-cons (λ micros. cond (nat_le micros b) 1 0) x observed in
    omega (arith, one, more, near, far)

pub cumulative : (h : HistogramValue) (observed : List ℕ) → HasObserved h observed
    → (j k : ℕ) → j ≤ k → k < 12 → (slice_index h.buckets j ≤ slice_index h.buckets k) × (slice_index h.buckets k ≤ h.count)
cumulative h observed has j k order inside =
    let lower = has.buckets j (omega (arith, order, inside)) in
    let upper = has.buckets k inside in
    let grows = within_grows (slice_index BOUNDS j) (slice_index BOUNDS k) observed (climb BOUNDS refl j k order inside) in
    let most = count_by-le-length (λ micros. nat_le micros (slice_index BOUNDS k)) observed in
    let all = has.count in
    (omega (arith, lower, upper, grows), omega (arith, upper, all, most))
