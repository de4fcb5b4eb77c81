use Rattle.std.proofs.Common.{◌≡◌, ◌≤◌, ◌+◌, ◌*◌, drop}
use Rattle.feed_identifiers.specs.Check.{weighted_sum}
use Rattle.feed_identifiers.proofs.check.weighted_sum.Given as goal

-- the sum so far and that of the other digits are the sum
abbrev pub invariant-loop-place : goal.invariant-loop-place
invariant-loop-place l = record {
  sum : l.sum + weighted_sum (drop l.place l.weights) (drop l.place l.digits) ≡ weighted_sum l.weights l.digits;
  small : l.sum ≤ 65025 * l.place;
}
