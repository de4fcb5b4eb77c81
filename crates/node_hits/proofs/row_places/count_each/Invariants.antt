use Rattle.std.proofs.Common.{◌≡◌, [], take}
use Rattle.feed_answer.specs.QueryValue.{asked}
use Rattle.node_hits.specs.Merging.{with_each}
use Rattle.node_hits.proofs.row_places.count_each.Given as goal

-- the places of the identifiers so far
abbrev pub invariant-loop-place : goal.invariant-loop-place
invariant-loop-place l = l.all.items ≡ with_each l.limit l.holdings.rows [] (take l.place (asked l.query))
