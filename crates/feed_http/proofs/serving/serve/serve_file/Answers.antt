use Rattle.std.proofs.Common.{sym, ◌∙◌}
use Rattle.feed_http.specs.declared.serving.response_head.ServerHead.TheVariants.{NotFound, Whole}
use Rattle.feed_http.proofs.Answering.{written_alone, answered_head, answered_missing, answered_part, has_size}
use Rattle.feed_http.proofs.serving.serve.serve_file.Goals as goal

pub returns-in_default-clause-reply : goal.returns-in_default-clause-reply
returns-in_default-clause-reply g c =
    answered_missing (g.S.Shelf.files c.args.shelf.now) c.args.request.now c.args.name.now c.in_ok-size.field-0 c.write.result _ _ c.in_ok-size.ensures.size c.in_default.is
    (written_alone NotFound c.write.result _ _ c.write.ensures.status c.write.ensures.head c.write.ensures.faults)

pub returns-then-is_head-clause-reply : goal.returns-then-is_head-clause-reply
returns-then-is_head-clause-reply g c = answered_head (g.S.Shelf.files c.args.shelf.now) c.args.request.now c.args.name.now c.in-Some.size c.write-then-is_head.result
    (g.W.Write.contents c.args.writer.now) (g.W.Write.contents c.write-then-is_head.new.writer)
    (has_size (g.S.Shelf.files c.args.shelf.now) c.args.name.now _ c.in-Some.size c.in_ok-size.ensures.size c.in-Some.is)
    (λ head has. sym c.if-is_head.true ∙ c.is_head.ensures head has)
    (written_alone (Whole c.in-Some.size) c.write-then-is_head.result _ _ c.write-then-is_head.ensures.status c.write-then-is_head.ensures.head c.write-then-is_head.ensures.faults)

pub returns-clause-reply : goal.returns-clause-reply
returns-clause-reply g c = answered_part (g.S.Shelf.files c.args.shelf.now) c.args.request.now c.args.name.now c.in-Some.size c.ask.result c.serve_part.result _ _
    (has_size (g.S.Shelf.files c.args.shelf.now) c.args.name.now _ c.in-Some.size c.in_ok-size.ensures.size c.in-Some.is)
    (λ head has. sym c.if-is_head.false ∙ c.is_head.ensures head has) c.ask.ensures.value
    (rw c.in_ok-size.ensures.kept at c.serve_part.ensures.reply)
