-- The order in which connections are closed.
use Rattle.std.proofs.Common.{◌≡◌, ◌+◌, ◌*◌, ◌<◌, ◌≤◌, ◌⊎◌, ℕ, Bool, true, false, ◌==◌, ◌&&◌, ◌||◌, ◌∙◌, arith, refl, inl, inr}
use Rattle.std.specs.Prelude.{nat_lt}
use Rattle.node_table.specs.Tables.{goes_first}
use Rattle.std.proofs.lemmas.Bool.{or_cases, and_parts, or_left, or_right, or_from, and_from, and_right, ltb-true, lt-ltb, le-ltb, eqb-true, eq-eqb, both_ways, cases_lt, false_from_ne_true}

-- a rank and a time come before others
abbrev pub comes_before : ℕ → ℕ → ℕ → ℕ → Bool
comes_before rank time other_rank other_time = nat_lt other_rank rank || ((rank == other_rank) && nat_lt other_time time)

abbrev pub ComesBefore : ℕ → ℕ → ℕ → ℕ → Type 0
ComesBefore rank time other_rank other_time = (other_rank < rank) ⊎ ((rank ≡ other_rank) × (other_time < time))

before_is : (c t d u : ℕ) → comes_before c t d u ≡ true → ComesBefore c t d u
before_is c t d u is = elim (or_cases (nat_lt d c) ((c == d) && nat_lt u t) is) [
  | inl lower ↦ inl (ltb-true d c lower)
  | inr both ↦ let parts = and_parts (c == d) (nat_lt u t) both in inr (eqb-true c d parts.0, ltb-true u t parts.1)
]

is_before : (c t d u : ℕ) → ComesBefore c t d u → comes_before c t d u ≡ true
is_before c t d u (inl lower) = or_left (nat_lt d c) ((c == d) && nat_lt u t) (lt-ltb d c lower)
is_before c t d u (inr both) = or_right (nat_lt d c) ((c == d) && nat_lt u t) (and_from (c == d) (nat_lt u t) (eq-eqb c d both.0) (lt-ltb u t both.1))

before_both : (c t d u e v : ℕ) → ComesBefore c t d u → ComesBefore d u e v → ComesBefore c t e v
before_both c t d u e v (inl first) (inl second) = inl (omega arith)
before_both c t d u e v (inl first) (inr second) = inl (omega (arith, second.0))
before_both c t d u e v (inr first) (inl second) = inl (omega (arith, first.0))
before_both c t d u e v (inr first) (inr second) = inr (first.0 ∙ second.0, omega (arith, first.1, second.1))

-- what does not come before the one does not come before another that does
pub not_before : (c t d u e v : ℕ) → comes_before c t d u ≡ true → comes_before e v d u ≡ false → comes_before e v c t ≡ false
not_before c t d u e v is not =
    false_from_ne_true (comes_before e v c t) (λ first. both_ways (comes_before e v d u) not (is_before e v d u (before_both e v c t d u (before_is e v c t first) (before_is c t d u is))))

pub not_before_itself : (c t : ℕ) → comes_before c t c t ≡ false
not_before_itself c t = or_from (nat_lt c c) ((c == c) && nat_lt t t) (le-ltb c c (omega arith)) (and_right (c == c) (nat_lt t t) (le-ltb t t (omega arith)))

-- the same where one that waits comes last
pub not_first : (a b e : Bool) (c t d u f v : ℕ) → goes_first a b (comes_before c t d u) ≡ true → goes_first e b (comes_before f v d u) ≡ false
    → goes_first e a (comes_before f v c t) ≡ false
not_first false false false c t d u f v is not = not_before c t d u f v is not
not_first false false true c t d u f v is not = refl
not_first false true false c t d u f v is not = absurd (cc)
not_first false true true c t d u f v is not = refl
not_first true false e c t d u f v is not = absurd (cc)
not_first true true false c t d u f v is not = absurd (cc)
not_first true true true c t d u f v is not = not_before c t d u f v is not

pub not_first_itself : (a : Bool) (c t : ℕ) → goes_first a a (comes_before c t c t) ≡ false
not_first_itself false c t = not_before_itself c t
not_first_itself true c t = not_before_itself c t

-- what waits and does not come before the other leaves one that waits
pub waits_too : (a b by_state : Bool) → b ≡ true → goes_first a b by_state ≡ false → a ≡ true
waits_too true b by_state is not = refl
waits_too false true by_state is not = absurd (cc)
waits_too false false by_state is not = absurd (cc)

-- what does not come before ranks no higher
pub ranks_no_higher : (c t d u : ℕ) → comes_before c t d u ≡ false → c ≤ d
ranks_no_higher c t d u not = elim (cases_lt d c) [
  | inl lower ↦ absurd (both_ways (comes_before c t d u) not (is_before c t d u (inl lower)))
  | inr most ↦ most
]

-- one with no greater priority does not come before another, whose time is below the end of times
pub not_before_greater : (c t d u : ℕ) → c * 18446744073709551616 + t ≤ d * 18446744073709551616 + u → u < 18446744073709551616 → comes_before c t d u ≡ false
not_before_greater c t d u within below = false_from_ne_true (comes_before c t d u) (λ is. elim (before_is c t d u is) [
  | inl lower ↦ omega (arith, lower, within, below)
  | inr both ↦ omega (arith, both.0, both.1, within)
])

-- where the second does not wait, the first is not before it if it waits or is not by its state
pub not_first_of : (a b by_state : Bool) → b ≡ false → (a ≡ false → by_state ≡ false) → goes_first a b by_state ≡ false
not_first_of false false by_state is not = not refl
not_first_of true false by_state is not = refl
not_first_of false true by_state is not = absurd (cc)
not_first_of true true by_state is not = absurd (cc)
