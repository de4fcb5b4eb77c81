use Rattle.std.proofs.Common.{◌≡◌, drop}
use Rattle.feed_openurl.specs.Dates.{numeric_date}
use Rattle.feed_openurl.proofs.lenient_date.numeric_date.Given as goal

abbrev pub invariant-loop-place : goal.invariant-loop-place
invariant-loop-place l = numeric_date (drop l.place l.tokens) ≡ numeric_date l.tokens
