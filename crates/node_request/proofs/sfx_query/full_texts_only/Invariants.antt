use Rattle.std.proofs.Common.{◌≡◌, length}
use Rattle.node_request.specs.SfxQueries.{full_texts_only}
use Rattle.node_request.proofs.sfx_query.full_texts_only.Given as goal

abbrev pub invariant-loop-piece : goal.invariant-loop-piece
invariant-loop-piece l = full_texts_only l.rest ≡ full_texts_only l.query

abbrev pub decreases-loop-piece : goal.decreases-loop-piece
decreases-loop-piece l = length l.rest
