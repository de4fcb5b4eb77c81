use Rattle.std.proofs.Common.{◌≡◌, length}
use Rattle.node_request.specs.Representations.{weight_under}
use Rattle.node_request.proofs.representation.weight_under.Given as goal

abbrev pub invariant-loop-element : goal.invariant-loop-element
invariant-loop-element l = weight_under l.range l.rest ≡ weight_under l.range l.value

abbrev pub decreases-loop-element : goal.decreases-loop-element
decreases-loop-element l = length l.rest
