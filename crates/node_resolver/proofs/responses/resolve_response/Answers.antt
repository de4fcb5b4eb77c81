use Rattle.std.proofs.Common.{◌≡◌, ℕ, List, ap, ◌∙◌}
use Rattle.std.proofs.lemmas.Result.{IfOk-weaker}
use Rattle.node_request.specs.declared.representation.Representation.{Representation}
use Rattle.node_pages.specs.OpenUrlTexts.{OpenUrlTextValue}
use Rattle.node_response.specs.declared.status.Status.TheVariants as status
use Rattle.node_resolver.specs.Answers.{sited_in}
use Rattle.node_resolver.specs.Responses.{found_response, resolve_response}
use Rattle.node_resolver.proofs.AnswersWritten.{looked_up}
use Rattle.node_resolver.proofs.responses.resolve_response.Goals as goal

pub returns-in-Ok : goal.returns-in-Ok
returns-in-Ok c = IfOk-weaker c.found_response.result _
    (λ reply. reply ≡ resolve_response c.args.asked.now.representation c.args.asked.now.text (sited_in c.args.context.now))
    (λ reply is. is ∙ looked_up (λ (kind : Representation) (text : List ℕ). found_response kind text (sited_in c.args.context.now)) (sited_in c.args.context.now) status.Good
    c.in_ok-query.query.representation c.args.asked.now.representation c.in_ok-query.query.text.now c.args.asked.now.text c.in_ok-lookup.field-0 c.in-Ok.lookup
    (c.in_ok-query.ensures.representation ∙ ap (λ (a : OpenUrlTextValue). a.representation) c.asked.view_is)
    (c.in_ok-query.ensures.text ∙ ap (λ (a : OpenUrlTextValue). a.text) c.asked.view_is)
    c.in_ok-lookup.ensures c.in-Ok.is)
    c.found_response.ensures
