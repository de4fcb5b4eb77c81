use Rattle.std.proofs.Common.{inr, subst}
use Rattle.node_request.specs.FoundRequests.{HasNoHead}
use Rattle.node_table.proofs.peer.Peer.client_slot.Goals as goal

pub returns-in-None-clause-slot : goal.returns-in-None-clause-slot
returns-in-None-clause-slot g c =
    (c.ip-proxy.result, inr (subst (λ bytes. HasNoHead bytes) c.held_request.ensures c.in-None.ensures, c.ip-proxy.ensures), c.slot_of-in-None.ensures.slot)
