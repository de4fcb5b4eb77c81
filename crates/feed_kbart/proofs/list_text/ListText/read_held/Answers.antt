use Rattle.std.proofs.Common.{◌++◌, ◌∷◌, ◌∙◌, [], ap, arith}
use Rattle.feed_kbart.specs.declared.list_text.TheConstants.{PIECE}
use Rattle.feed_kbart.proofs.Pieces.{piece_fewer, text_piece}
use Rattle.feed_kbart.proofs.list_text.ListText.read_held.Goals as goal

pub returns-clause-text : goal.returns-clause-text
returns-clause-text g c text within =
    let holds = c.in_ok-extend_from_slice.ensures.items ∙ ap (λ l. l ++ c.cut.result.1.now) (c.in_ok-push.ensures.items ∙ ap (λ l. l ++ 10 ∷ []) c.new-held.ensures.items) in
    text_piece g.K.KeepRows.keeps PIECE text c.deref.result.now c.cut.result.0.now c.cut.result.1.now c.args.self.now _ (omega arith) within c.deref.ensures.value
    c.cut.ensures.front c.cut.ensures.back holds c.in_ok-read_piece.ensures

pub returns-clause-fewer : goal.returns-clause-fewer
returns-clause-fewer g c within =
    let holds = c.in_ok-extend_from_slice.ensures.items ∙ ap (λ l. l ++ c.cut.result.1.now) (c.in_ok-push.ensures.items ∙ ap (λ l. l ++ 10 ∷ []) c.new-held.ensures.items) in
    piece_fewer PIECE c.deref.result.now c.cut.result.1.now c.args.self.now.held.items _ (omega arith) within c.deref.ensures.value c.cut.ensures.back holds
