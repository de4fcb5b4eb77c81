use Rattle.std.proofs.Common.{refl, inl, inr}
use Rattle.std.proofs.lemmas.Result.{IfOk-weaker}
use Rattle.node_service.specs.Responders.{response_in}
use Rattle.node_service.proofs.Turns.{says_in_turn}
use Rattle.node_service.proofs.responder.FeedResponderFeedRespond.respond.Goals as goal

pub returns-in-Some-clause-reply : goal.returns-in-Some-clause-reply
returns-in-Some-clause-reply g c = λ h is. inl (c.in-Some.reply, (rw c.in-Some.is at c.in_ok-reply.ensures.value) h is, rw c.new.ensures refl)

pub returns-in-None-clause-reply : goal.returns-in-None-clause-reply
returns-in-None-clause-reply g c = IfOk-weaker c.reader_response.result _ _ (λ reply turn. λ h is. inr (
  (rw c.in-None.is at c.in_ok-reply.ensures.value) h is,
  (response_in reply, reply.summary.is_streamed, turn h is, refl),
)) c.reader_response.ensures.turn

pub returns-in-None-clause-says : goal.returns-in-None-clause-says
returns-in-None-clause-says g c = IfOk-weaker c.reader_response.result _ _ (λ reply says.
    says_in_turn c.args.request.now.received.bytes.now c.args.request.now.body.now c.args.request.now.persists (response_in reply) c.requires.allowed says) c.reader_response.ensures.says
