use Rattle.std.proofs.Common.{rules}
use Rattle.node_connection.proofs.HeldBytes.{nothing_yet, none_begins}
use Rattle.node_connection.proofs.held_bytes.HeldBytes.drop_front.Goals as goal

pub invariant_of-self : goal.invariant_of-self
invariant_of-self c = record { within = search rules; known = ∣ nothing_yet ∣₁; routed = none_begins c.args.self.now.route }
