use Rattle.std.proofs.Common.{◌≡◌, length}
use Rattle.node_request.specs.Representations.{format_of}
use Rattle.node_request.proofs.representation.format_of.Given as goal

abbrev pub invariant-loop-piece : goal.invariant-loop-piece
invariant-loop-piece l = format_of l.hits l.rest ≡ format_of l.hits l.query

abbrev pub decreases-loop-piece : goal.decreases-loop-piece
decreases-loop-piece l = length l.rest
