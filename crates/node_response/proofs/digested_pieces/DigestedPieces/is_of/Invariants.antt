use Rattle.std.proofs.Common.{◌≡◌, ◌↔◌, drop}
use Rattle.std.specs.List.{concat}
use Rattle.node_response.proofs.digested_pieces.DigestedPieces.is_of.Given as goal

abbrev pub invariant-loop-piece : goal.invariant-loop-piece
invariant-loop-piece l = (l.self ≡ l.text) ↔ (concat (drop l.piece-index l.piece-items) ≡ l.rest)
