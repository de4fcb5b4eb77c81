-- The weighted sum of digits, as far as a loop has come.
use Rattle.std.proofs.Common.{◌≡◌, ◌≤◌, ℕ, List, [], ◌∷◌, length, drop, refl, ap, ◌∙◌}
use Rattle.std.proofs.lemmas.List.{drop_all}
use Rattle.feed_identifiers.specs.Check.{weighted_sum}

no_digits : (weights : List ℕ) → weighted_sum weights [] ≡ 0
no_digits [] = refl
no_digits (weight ∷ weights) = refl

-- no digits are left
pub sum_done : (weights digits : List ℕ) (i : ℕ) → length digits ≤ i → weighted_sum (drop i weights) (drop i digits) ≡ 0
sum_done weights digits i past = ap (weighted_sum (drop i weights)) (drop_all i digits past) ∙ no_digits (drop i weights)
