use Rattle.std.proofs.Common.{◌≡◌, length}
use Rattle.node_request.specs.Conditions.{lists_tag}
use Rattle.node_request.proofs.condition.lists_tag.Given as goal

abbrev pub invariant-loop-element : goal.invariant-loop-element
invariant-loop-element l = lists_tag l.tag l.rest ≡ lists_tag l.tag l.value

abbrev pub decreases-loop-element : goal.decreases-loop-element
decreases-loop-element l = length l.rest
