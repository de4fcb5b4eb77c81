use Rattle.std.proofs.Common.{subst, sym, ◌∙◌}
use Rattle.node_request.specs.FetchRequests.{IsWhetherToBegin}
use Rattle.node_machine.specs.Occasions.{terms_of}
use Rattle.node_response.specs.Responses.{ResponseTextValue}
use Rattle.node_service.specs.Responders.{IsResponseBy, IsWhetherToStream, SaysOfTurn}
use Rattle.node_service.proofs.responder.FeedResponder.reader_response.Goals as goal

pub returns-in-Ok-Some-clause-turn : goal.returns-in-Ok-Some-clause-turn
returns-in-Ok-Some-clause-turn g c = λ h is. (
  subst (λ (r : ResponseTextValue). IsResponseBy c.args.self.now (terms_of c.args.self.now.sites c.args.occasion.now) h
      c.args.request.now.received.bytes.now c.args.request.now.body.now c.args.request.now.persists r)
      (sym c.into_response.ensures.response) ((rw c.in-Ok-Some.field-0-is at c.in-Ok-Some.ensures.reply) h is),
  subst (IsWhetherToStream c.args.self.now.has_folder c.args.occasion.now.policy c.args.request.now.received.bytes.now) (sym c.into_response.ensures.streamed)
      (c.is_streamed-is_streamed.ensures (subst (IsWhetherToBegin c.args.occasion.now.policy c.args.request.now.received.bytes.now) (sym c.is_some.ensures) c.expected_by-expected.ensures)),
)

pub returns-in-Ok-Some-clause-says : goal.returns-in-Ok-Some-clause-says
returns-in-Ok-Some-clause-says g c = subst (λ (r : ResponseTextValue). SaysOfTurn c.args.request.now.received.bytes.now c.args.request.now.persists r)
    (sym c.into_response.ensures.response) (rw c.in-Ok-Some.field-0-is at c.in-Ok-Some.ensures.says)
