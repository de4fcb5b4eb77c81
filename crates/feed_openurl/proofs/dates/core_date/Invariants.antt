use Rattle.std.proofs.Common.{◌≡◌, drop}
use Rattle.feed_openurl.specs.Core.{core_date}
use Rattle.feed_openurl.proofs.dates.core_date.Given as goal

-- no pair so far has a valid date
abbrev pub invariant-loop-pair : goal.invariant-loop-pair
invariant-loop-pair l = core_date (drop l.pair-index l.pairs) ≡ core_date l.pairs
