use Rattle.std.proofs.Common.{List, IfOk, subst, ◌∙◌}
use Rattle.feed_releases.specs.Actives.{ActiveValue}
use Rattle.node_resolver.specs.Answers.{dated}
use Rattle.node_resolver.specs.NodeResponses.{IsNodeResponseText}
use Rattle.node_resolver.proofs.node.respond_as_node.Goals as goal

pub returns-clause-text : goal.returns-clause-text
returns-clause-text g c = subst
    (λ (actives : List ActiveValue). IfOk c.node_response_with.result
    (λ response. IsNodeResponseText c.args.sites.now c.args.policy.now c.args.received.now.bytes.now c.args.body.now c.args.keeps (dated c.args.today.now actives) response.bytes))
    (c.deref.ensures.value ∙ c.in_ok-actives.ensures.value) c.node_response_with.ensures.text
