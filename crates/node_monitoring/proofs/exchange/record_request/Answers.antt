use Rattle.std.proofs.Common.{subst, ap, ◌∷◌, ◌∙◌}
use Rattle.node_monitoring.specs.Counts.{HasCounted}
use Rattle.node_monitoring.specs.declared.request_kind.Target.{Target}
use Rattle.node_monitoring.specs.Exchanges.{request_added}
use Rattle.node_monitoring.specs.Targets.{target_in}
use Rattle.node_monitoring.proofs.exchange.record_request.Goals as goal

pub returns-clause-requests : goal.returns-clause-requests
returns-clause-requests c = λ head has history was. subst (λ (named : Target). HasCounted c.count_exchange.new.metrics.requests (request_added named c.args.exchange.now ∷ history))
    (c.target_in.ensures ∙ ap target_in (c.args.parsed.now.routed head has)) (c.count_exchange.ensures.requests history was)
