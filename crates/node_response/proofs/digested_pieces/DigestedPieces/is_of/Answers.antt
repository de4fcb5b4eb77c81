use Rattle.std.proofs.Common.{◌≡◌, false, true, sym, ◌∙◌, arith}
use Rattle.std.specs.Cmp.Lexicographic.{bytes_decides}
use Rattle.node_response.proofs.Pieces.{after_piece, other_piece}
use Rattle.node_response.proofs.digested_pieces.DigestedPieces.is_of.Goals as goal

pub returns-in-None : goal.returns-in-None
returns-in-None c =
    let piece = c.text.result.now in
    let other = c.in-None.ensures.cases in (
      λ no. absurd (let no : false ≡ true = no in cc),
      λ same. absurd (other_piece (c.args.self.now ≡ c.args.text.now) c.deref-piece-items.result.now c.loop-piece.piece-index c.piece-item.result c.loop-piece.rest.now piece
          c.loop-piece.invariant (omega arith) (c.text.ensures ∙ c.piece-item.is) (λ e. let no : true ≡ false = sym ((bytes_decides _ _).1 e) ∙ other in cc) same),
    )

pub loop-piece-preserved : goal.loop-piece-preserved
loop-piece-preserved c =
    let found = c.in-Some.ensures.cases in
    after_piece (c.args.self.now ≡ c.args.text.now) c.deref-piece-items.result.now c.loop-piece.piece-index c.piece-item.result c.loop-piece.rest.now c.in-Some.after.now c.text.result.now
    c.loop-piece.invariant (omega arith) (c.text.ensures ∙ c.piece-item.is) ((bytes_decides _ _).0 found.0) found.1
