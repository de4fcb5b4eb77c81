use Rattle.std.proofs.Common.{inl, inr}
use Rattle.node_machine.specs.Occasions.{terms_of}
use Rattle.node_service.proofs.Turns.{as_node}
use Rattle.node_service.proofs.responder.FeedResponder.response.Goals as goal

pub returns-in_ok-response-in-None-clause-reply : goal.returns-in_ok-response-in-None-clause-reply
returns-in_ok-response-in-None-clause-reply g c = λ h is.
    as_node c.args.self.now (terms_of c.args.self.now.sites c.args.occasion.now) c.args.request.now.received.bytes.now c.args.request.now.body.now
    c.args.request.now.persists h c.in_ok-response-in-None.response
    (rw c.in-None.is at c.in_ok-response.ensures.value) ((rw c.if-not-branch.false at c.in_ok-is_answerable-in-None.ensures) h is) (c.in_ok-response-in-None.ensures.reported h is)

pub returns-in-Some-clause-reply : goal.returns-in-Some-clause-reply
returns-in-Some-clause-reply g c = λ h is. inl (rw c.in-Some.is at c.in_ok-response.ensures.value)

pub returns-in_ok-response-in-None-clause-says : goal.returns-in_ok-response-in-None-clause-says
returns-in_ok-response-in-None-clause-says g c = inr c.in_ok-response-in-None.ensures.says

pub returns-then-not-branch-clause-held : goal.returns-then-not-branch-clause-held
returns-then-not-branch-clause-held g c = λ h is. (rw c.in-None.is at c.in_ok-response.ensures.value, (rw c.if-not-branch.true at c.in_ok-is_answerable-in-None.ensures) h is)
