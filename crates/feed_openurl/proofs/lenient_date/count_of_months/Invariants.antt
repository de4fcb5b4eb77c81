use Rattle.std.proofs.Common.{◌≡◌, ◌≤◌, ◌+◌, drop, filter, length}
use Rattle.feed_openurl.specs.Dates.{is_month}
use Rattle.feed_openurl.proofs.lenient_date.count_of_months.Given as goal

abbrev pub invariant-loop-token : goal.invariant-loop-token
invariant-loop-token l =
    (l.count ≤ l.token-index) × (l.count + length (filter is_month (drop l.token-index l.tokens)) ≡ length (filter is_month l.tokens))
