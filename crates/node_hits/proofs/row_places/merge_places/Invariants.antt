use Rattle.std.proofs.Common.{◌≡◌, ◌++◌, ◌-◌, length}
use Rattle.node_hits.specs.Merging.{merged}
use Rattle.node_hits.proofs.row_places.merge_places.Given as goal

-- the places so far, and the first ones of what is left, are the first of all
abbrev pub invariant-loop-left : goal.invariant-loop-left
invariant-loop-left l = l.places.items ++ merged (l.limit - length l.places.items) l.left l.right ≡ merged l.limit l.fn.one.items l.other

abbrev pub decreases-loop-left : goal.decreases-loop-left
decreases-loop-left l = l.limit - length l.places.items
