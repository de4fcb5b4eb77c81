use Rattle.std.proofs.Common.{◌≡◌, take}
use Rattle.feed_kbart.proofs.Headers.{columns_found}
use Rattle.feed_kbart.proofs.header.HeaderLabels.columns.Given as goal

-- what was found so far is in its slots
abbrev pub invariant-loop-found : goal.invariant-loop-found
invariant-loop-found l = l.columns ≡ columns_found (take l.found-index l.found-items)
