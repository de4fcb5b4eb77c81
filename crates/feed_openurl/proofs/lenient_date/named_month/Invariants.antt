use Rattle.std.proofs.Common.{◌≡◌, drop}
use Rattle.feed_openurl.specs.Dates.{named_month}
use Rattle.feed_openurl.proofs.lenient_date.named_month.Given as goal

abbrev pub invariant-loop-place : goal.invariant-loop-place
invariant-loop-place l = named_month l.before (drop l.place l.tokens) ≡ named_month 0 l.tokens
