use Rattle.std.proofs.Common.{◌≡◌, length}
use Rattle.node_monitoring.specs.Forwarded.{last_part}
use Rattle.node_monitoring.proofs.client.last_part.Given as goal

abbrev pub invariant-loop-more : goal.invariant-loop-more
invariant-loop-more l = last_part l.rest ≡ last_part l.value

abbrev pub decreases-loop-more : goal.decreases-loop-more
decreases-loop-more l = length l.rest
