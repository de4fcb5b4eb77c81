use Rattle.std.proofs.Common.{◌≡◌, ◌∙◌, ap}
use Rattle.std.proofs.lemmas.Result.{IfOk-weaker}
use Rattle.node_response.specs.declared.status.Status.{Status}
use Rattle.node_resolver.specs.Answers.{sited_in, tally_among}
use Rattle.node_resolver.specs.Responses.{hits_response, redirect_response, status_without, target_of}
use Rattle.node_resolver.proofs.AnswersWritten.{linked, target_made, unlinked, whole_made}
use Rattle.node_resolver.proofs.responses.redirect_response.Goals as goal

pub returns-in-Some : goal.returns-in-Some
returns-in-Some c = c.redirect.ensures ∙ linked (λ t. t.items) c.in_ok-link.field-0 (target_of c.args.lookup.now (sited_in c.args.context.now)) c.in-Some.link
    (hits_response (status_without (tally_among c.args.lookup.now (sited_in c.args.context.now)).is_whole) c.args.query.now.representation c.args.query.now.text.now
    (sited_in c.args.context.now) c.args.lookup.now)
    (c.in_ok-link.ensures
    ∙ target_made _ c.args.lookup.now (sited_in c.args.context.now) c.in_ok-hits.hits c.library.ensures c.in_ok-hits.ensures)
    c.in-Some.is

pub returns-in-None : goal.returns-in-None
returns-in-None c = IfOk-weaker c.counted_response.result _
    (λ reply. reply ≡ redirect_response c.args.query.now.representation c.args.query.now.text.now (sited_in c.args.context.now) c.args.lookup.now)
    (λ reply is. is
    ∙ ap (λ (s : Status). hits_response s c.args.query.now.representation c.args.query.now.text.now (sited_in c.args.context.now) c.args.lookup.now)
    (c.status_without-status.ensures
    ∙ ap status_without (c.is_whole.ensures ∙ whole_made c.args.lookup.now (sited_in c.args.context.now) c.in_ok-hits.hits c.in_ok-hits.ensures))
    ∙ unlinked (λ t. t.items) c.in_ok-link.field-0 (target_of c.args.lookup.now (sited_in c.args.context.now))
    (hits_response (status_without (tally_among c.args.lookup.now (sited_in c.args.context.now)).is_whole) c.args.query.now.representation c.args.query.now.text.now
    (sited_in c.args.context.now) c.args.lookup.now)
    (c.in_ok-link.ensures
    ∙ target_made _ c.args.lookup.now (sited_in c.args.context.now) c.in_ok-hits.hits c.library.ensures c.in_ok-hits.ensures)
    c.in-None.is)
    c.counted_response.ensures
