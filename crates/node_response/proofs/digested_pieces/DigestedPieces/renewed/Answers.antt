use Rattle.std.proofs.Common.{rules, ap, sym, ◌∙◌, subst, min, length}
use Rattle.std.specs.List.{flat_map}
use Rattle.std.specs.Slice.Iter.{chunks_rest}
use Rattle.sha2.specs.Hashers.{Holds256}
use Rattle.sha2.specs.Sha256.{sha256}
use Rattle.node_response.specs.Pieces.{pieces_of}
use Rattle.node_response.proofs.Pieces.{all_pieces, one_digest, one_more, text_of_pieces}
use Rattle.node_response.proofs.digested_pieces.DigestedPieces.renewed.Goals as goal

pub loop-chunk-preserved : goal.loop-chunk-preserved
loop-chunk-preserved c =
    let steps = c.in-Some.ensures.steps in
    let is = c.loop-chunk.invariant in
    let size = ap (λ n. min n (length (chunks_rest c.loop-chunk.chunk-iterator))) is.2 in
    let more = c.in_ok-push.ensures.items in (
      search rules,
      tt,
      steps.0 ∙ is.2,
      one_more c.loop-chunk.pieces.items c.push.new.self.items c.in_ok-piece.piece c.in-Some.chunk.now (chunks_rest c.loop-chunk.chunk-iterator) (chunks_rest c.next.new.self)
          c.args.text.now more c.in_ok-piece.ensures is.3 steps.1.0 (steps.1.1 ∙ size) steps.1.2,
      subst (Holds256 c.update.new.self) (one_digest c.loop-chunk.pieces.items c.push.new.self.items c.in_ok-piece.piece more)
          (rw (sym (c.as_slice.ensures ∙ c.digest.ensures)) (c.update.ensures (flat_map sha256 c.loop-chunk.pieces.items) is.4)),
    )

pub invariant_of-result : goal.invariant_of-result
invariant_of-result c =
    let all = all_pieces c.loop-chunk.pieces.items (chunks_rest c.loop-chunk.chunk-iterator) c.args.text.now c.loop-chunk.invariant.3 c.in-None.ensures.steps.1.0 in
    (all ∙ ap pieces_of (sym (text_of_pieces c.loop-chunk.pieces.items c.args.text.now all)), c.finalize.ensures (flat_map sha256 c.loop-chunk.pieces.items) c.loop-chunk.invariant.4)

pub returns : goal.returns
returns c = text_of_pieces c.loop-chunk.pieces.items c.args.text.now
    (all_pieces c.loop-chunk.pieces.items (chunks_rest c.loop-chunk.chunk-iterator) c.args.text.now c.loop-chunk.invariant.3 c.in-None.ensures.steps.1.0)
