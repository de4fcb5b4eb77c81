use Rattle.std.proofs.Common.{◌≡◌, length}
use Rattle.node_request.specs.SfxQueries.{first_form_of}
use Rattle.node_request.proofs.sfx_query.first_form_of.Given as goal

abbrev pub invariant-loop-piece : goal.invariant-loop-piece
invariant-loop-piece l = first_form_of l.rest ≡ first_form_of l.query

abbrev pub decreases-loop-piece : goal.decreases-loop-piece
decreases-loop-piece l = length l.rest
