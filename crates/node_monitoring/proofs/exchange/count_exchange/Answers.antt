use Rattle.std.proofs.Common.{subst, sym, ℕ, List, ◌∷◌, ◌++◌, ◌∙◌}
use Rattle.node_monitoring.specs.Counts.{HasCounted}
use Rattle.node_monitoring.specs.Exchanges.{bytes_by}
use Rattle.node_monitoring.proofs.Counted.{request_bytes, with_refusal, without_refusal}
use Rattle.node_monitoring.proofs.exchange.count_exchange.Goals as goal

pub returns-then-exchange-eq401-clause-counters : goal.returns-then-exchange-eq401-clause-counters
returns-then-exchange-eq401-clause-counters c = λ history was. with_refusal _ c.args.exchange.now.status (bytes_by c.args.exchange.now) history c.if-exchange-eq401.true
    (c.add-then-exchange-eq401.ensures.counted (bytes_by c.args.exchange.now ++ history) (c.add-2.ensures.counted (request_bytes c.args.exchange.now ∷ history)
    (c.add.ensures.counted history (subst (λ (counts : List ℕ). HasCounted counts history) (sym (c.count_request.ensures.counters ∙ c.count_site.ensures.counters)) was))))

pub returns-else-exchange-eq401-clause-counters : goal.returns-else-exchange-eq401-clause-counters
returns-else-exchange-eq401-clause-counters c = λ history was. without_refusal _ c.args.exchange.now.status (bytes_by c.args.exchange.now) history c.if-exchange-eq401.false
    (c.add-2.ensures.counted (request_bytes c.args.exchange.now ∷ history)
    (c.add.ensures.counted history (subst (λ (counts : List ℕ). HasCounted counts history) (sym (c.count_request.ensures.counters ∙ c.count_site.ensures.counters)) was)))
