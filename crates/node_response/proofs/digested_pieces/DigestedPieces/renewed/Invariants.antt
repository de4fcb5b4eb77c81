use Rattle.std.proofs.Common.{◌≡◌, ◌++◌}
use Rattle.std.specs.List.{flat_map}
use Rattle.std.specs.Slice.Iter.{chunks_rest, chunks_size}
use Rattle.sha2.specs.Hashers.{Holds256}
use Rattle.sha2.specs.Sha256.{sha256}
use Rattle.node_response.specs.Pieces.{pieces_of}
use Rattle.node_response.proofs.digested_pieces.DigestedPieces.renewed.Given as goal

abbrev pub invariant-loop-chunk : goal.invariant-loop-chunk
invariant-loop-chunk l =
    goal.iterator-loop-chunk.can_next l.chunk-iterator
    × goal.iterator-loop-chunk.is_finite l.chunk-iterator
    × (chunks_size l.chunk-iterator ≡ 4096)
    × (l.pieces.items ++ pieces_of (chunks_rest l.chunk-iterator) ≡ pieces_of l.text)
    × Holds256 l.hasher (flat_map sha256 l.pieces.items)
