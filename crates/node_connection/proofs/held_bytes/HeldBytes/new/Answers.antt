use Rattle.std.proofs.Common.{rules}
use Rattle.node_connection.proofs.HeldBytes.{nothing_yet, none_begins}
use Rattle.node_connection.proofs.held_bytes.HeldBytes.new.Goals as goal

pub invariant_of-result : goal.invariant_of-result
invariant_of-result c = record { within = search rules; known = ∣ nothing_yet ∣₁; routed = none_begins _ }
