use Rattle.std.proofs.Common.{sym, ◌∙◌}
use Rattle.feed_http.specs.declared.serving.response_head.ServerHead.TheVariants.{BadRequest, NotFound, NotImplemented}
use Rattle.feed_http.proofs.Answering.{answered_named, names_none, nameless, needs_file, of_any, of_any_alone, unhosted, unhosted_alone, unsupported, unsupported_alone, unwritten, written_alone}
use Rattle.feed_http.proofs.serving.serve.respond.Goals as goal

pub returns-then-lacks_host-clause-reply : goal.returns-then-lacks_host-clause-reply
returns-then-lacks_host-clause-reply g c = let written = c.write.ensures in
    unhosted (g.S.Shelf.files c.args.shelf.now) c.args.request.now c.write.result _ _ (λ head has. sym c.if-lacks_host.true ∙ c.lacks_host.ensures head has)
    (written_alone BadRequest c.write.result _ _ written.status written.head written.faults)

pub returns-then-lacks_host-clause-response_without_file : goal.returns-then-lacks_host-clause-response_without_file
returns-then-lacks_host-clause-response_without_file g c = let written = c.write.ensures in
    unhosted_alone c.args.request.now c.write.result _ _ (λ head has. sym c.if-lacks_host.true ∙ c.lacks_host.ensures head has)
    (written_alone BadRequest c.write.result _ _ written.status written.head written.faults)

pub returns-then-is_unsupported-clause-reply : goal.returns-then-is_unsupported-clause-reply
returns-then-is_unsupported-clause-reply g c = let written = c.write-then-is_unsupported.ensures in
    unsupported (g.S.Shelf.files c.args.shelf.now) c.args.request.now c.write-then-is_unsupported.result _ _
    (λ head has. sym c.if-lacks_host.false ∙ c.lacks_host.ensures head has) (λ head has. sym c.if-is_unsupported.true ∙ c.is_unsupported.ensures head has)
    (written_alone NotImplemented c.write-then-is_unsupported.result _ _ written.status written.head written.faults)

pub returns-then-is_unsupported-clause-response_without_file : goal.returns-then-is_unsupported-clause-response_without_file
returns-then-is_unsupported-clause-response_without_file g c = let written = c.write-then-is_unsupported.ensures in
    unsupported_alone c.args.request.now c.write-then-is_unsupported.result _ _
    (λ head has. sym c.if-lacks_host.false ∙ c.lacks_host.ensures head has) (λ head has. sym c.if-is_unsupported.true ∙ c.is_unsupported.ensures head has)
    (written_alone NotImplemented c.write-then-is_unsupported.result _ _ written.status written.head written.faults)

pub returns-in_err-name-clause-reply : goal.returns-in_err-name-clause-reply
returns-in_err-name-clause-reply g c = of_any (g.S.Shelf.files c.args.shelf.now) c.args.request.now c.from_residual.result _ _
    (λ reply. unwritten reply c.from_residual.result c.in_err-name.field-0.0 _ c.from_residual.ensures.1 c.in_err-name.ensures.faults)

pub returns-in_err-name-clause-response_without_file : goal.returns-in_err-name-clause-response_without_file
returns-in_err-name-clause-response_without_file g c = of_any_alone c.args.request.now c.from_residual.result _ _
    (λ reply. unwritten reply c.from_residual.result c.in_err-name.field-0.0 _ c.from_residual.ensures.1 c.in_err-name.ensures.faults)

pub returns-in_default-clause-reply : goal.returns-in_default-clause-reply
returns-in_default-clause-reply g c = let written = c.write-in_default.ensures in
    nameless (g.S.Shelf.files c.args.shelf.now) c.args.request.now c.in_ok-name.field-0 c.write-in_default.result _ _
    (λ head has. sym c.if-lacks_host.false ∙ c.lacks_host.ensures head has) (λ head has. sym c.if-is_unsupported.false ∙ c.is_unsupported.ensures head has)
    c.in_ok-name.ensures.named c.in_default.is (written_alone NotFound c.write-in_default.result _ _ written.status written.head written.faults)

pub returns-in_default-clause-response_without_file : goal.returns-in_default-clause-response_without_file
returns-in_default-clause-response_without_file g c = let written = c.write-in_default.ensures in
    names_none c.args.request.now c.in_ok-name.field-0 c.write-in_default.result _ _
    (λ head has. sym c.if-lacks_host.false ∙ c.lacks_host.ensures head has) (λ head has. sym c.if-is_unsupported.false ∙ c.is_unsupported.ensures head has)
    c.in_ok-name.ensures.named c.in_default.is (written_alone NotFound c.write-in_default.result _ _ written.status written.head written.faults)

pub returns-clause-reply : goal.returns-clause-reply
returns-clause-reply g c = answered_named (g.S.Shelf.files c.args.shelf.now) c.args.request.now c.in_ok-name.field-0 c.in-Some.name c.serve_file.result
    (g.W.Write.contents c.args.writer.now) (g.W.Write.contents c.serve_file.new.writer)
    (λ head has. sym c.if-lacks_host.false ∙ c.lacks_host.ensures head has) (λ head has. sym c.if-is_unsupported.false ∙ c.is_unsupported.ensures head has)
    c.in_ok-name.ensures.named c.in-Some.is c.serve_file.ensures.reply

pub returns-clause-response_without_file : goal.returns-clause-response_without_file
returns-clause-response_without_file g c = needs_file c.args.request.now c.in_ok-name.field-0 c.in-Some.name _
    (λ head has. sym c.if-lacks_host.false ∙ c.lacks_host.ensures head has) (λ head has. sym c.if-is_unsupported.false ∙ c.is_unsupported.ensures head has)
    c.in_ok-name.ensures.named c.in-Some.is
