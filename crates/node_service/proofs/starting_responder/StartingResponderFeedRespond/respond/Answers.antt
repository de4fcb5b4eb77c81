use Rattle.std.proofs.Common.{refl}
use Rattle.node_service.proofs.starting_responder.StartingResponderFeedRespond.respond.Goals as goal

pub returns-in-Some-clause-reply : goal.returns-in-Some-clause-reply
returns-in-Some-clause-reply g c = λ h is. (c.in-Some.reply, rw c.in-Some.is at c.in_ok-found.ensures.value, rw c.new.ensures refl)
