use Rattle.std.proofs.lemmas.Result.{IfOk-weaker}
use Rattle.node_service.specs.Responders.{IsOperatorResponse}
use Rattle.node_service.proofs.Turns.{as_operator}
use Rattle.node_service.proofs.responder.FeedResponder.operator_response.Goals as goal

pub returns-in-None-clause-value : goal.returns-in-None-clause-value
returns-in-None-clause-value g c = IfOk-weaker c.respond_about_sites.result _
    (IsOperatorResponse c.args.self.now.has_folder c.args.occasion.now.policy c.args.request.now.received.bytes.now c.args.request.now.persists)
    (λ found is. as_operator c.args.self.now.has_folder c.args.occasion.now.policy c.args.request.now.received.bytes.now c.args.request.now.persists found
    (rw c.in-None.is at c.in_ok-response.ensures.value) is)
    c.respond_about_sites.ensures.value
