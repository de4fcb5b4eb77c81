use Rattle.std.proofs.Common.{◌≡◌, drop}
use Rattle.std.specs.List.{list_any}
use Rattle.feed_openurl.specs.Dates.{is_before}
use Rattle.feed_openurl.proofs.lenient_date.has_month_before.Given as goal

abbrev pub invariant-loop-token : goal.invariant-loop-token
invariant-loop-token l = list_any (is_before l.month) (drop l.token-index l.tokens) ≡ list_any (is_before l.month) l.tokens
