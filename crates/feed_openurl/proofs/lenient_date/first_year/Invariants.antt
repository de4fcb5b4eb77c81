use Rattle.std.proofs.Common.{◌≡◌, drop}
use Rattle.feed_openurl.specs.Dates.{first_year}
use Rattle.feed_openurl.proofs.lenient_date.first_year.Given as goal

abbrev pub invariant-loop-token : goal.invariant-loop-token
invariant-loop-token l = first_year (drop l.token-index l.tokens) ≡ first_year l.tokens
