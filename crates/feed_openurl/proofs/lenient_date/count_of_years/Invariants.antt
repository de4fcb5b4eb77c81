use Rattle.std.proofs.Common.{◌≡◌, ◌≤◌, ◌+◌, drop, filter, length}
use Rattle.feed_openurl.specs.Dates.{has_year}
use Rattle.feed_openurl.proofs.lenient_date.count_of_years.Given as goal

abbrev pub invariant-loop-token : goal.invariant-loop-token
invariant-loop-token l =
    (l.count ≤ l.token-index) × (l.count + length (filter has_year (drop l.token-index l.tokens)) ≡ length (filter has_year l.tokens))
