use Rattle.std.proofs.Common.{◌≡◌, ◌∙◌}
use Rattle.std.specs.Option.{option_map_or}
use Rattle.std.proofs.lemmas.Result.{IfOk-weaker}
use Rattle.node_response.specs.Responses.{redirect_to}
use Rattle.node_response.specs.declared.status.Status.TheVariants as status
use Rattle.node_hits.specs.Tallies.{sole_link}
use Rattle.node_resolver.specs.Answers.{sited_in, tally_among}
use Rattle.node_resolver.specs.Responses.{hits_response}
use Rattle.node_resolver.proofs.AnswersWritten.{linked, sole_made, unlinked}
use Rattle.node_resolver.proofs.responses.sole_response.Goals as goal

pub returns-in-Some : goal.returns-in-Some
returns-in-Some c = c.redirect.ensures ∙ linked (λ t. t.items) c.in_ok-link.field-0 (sole_link (tally_among c.args.lookup.now (sited_in c.args.context.now))) c.in-Some.link
    (hits_response status.Good c.args.query.now.representation c.args.query.now.text.now (sited_in c.args.context.now) c.args.lookup.now)
    (c.in_ok-link.ensures ∙ c.in_ok-sole.ensures ∙ sole_made c.args.lookup.now (sited_in c.args.context.now) c.in_ok-hits.hits c.in_ok-hits.ensures)
    c.in-Some.is

pub returns-in-None : goal.returns-in-None
returns-in-None c = IfOk-weaker c.counted_response.result _
    (λ reply. reply ≡ option_map_or redirect_to (sole_link (tally_among c.args.lookup.now (sited_in c.args.context.now)))
    (hits_response status.Good c.args.query.now.representation c.args.query.now.text.now (sited_in c.args.context.now) c.args.lookup.now))
    (λ reply is. is ∙ unlinked (λ t. t.items) c.in_ok-link.field-0 (sole_link (tally_among c.args.lookup.now (sited_in c.args.context.now)))
    (hits_response status.Good c.args.query.now.representation c.args.query.now.text.now (sited_in c.args.context.now) c.args.lookup.now)
    (c.in_ok-link.ensures ∙ c.in_ok-sole.ensures ∙ sole_made c.args.lookup.now (sited_in c.args.context.now) c.in_ok-hits.hits c.in_ok-hits.ensures)
    c.in-None.is)
    c.counted_response.ensures
