use Rattle.std.proofs.Math.Logic.{∥∥₁_map}
use Rattle.node_connection.proofs.Phases.{over_elapsed}
use Rattle.node_table.proofs.peer.Peer.advance_clock.Goals as goal

pub invariant_of-self : goal.invariant_of-self
invariant_of-self g c = record { stateful = ∥∥₁_map c.args.self.now.stateful (λ was. (_, c.advance_clock.ensures.state was.0 was.1)); placed = c.args.self.now.placed }

pub returns-then-is_over-clause-elapsed : goal.returns-then-is_over-clause-elapsed
returns-then-is_over-clause-elapsed g c = λ history state. over_elapsed _ history _ (c.is_over.ensures.over c.if-is_over.true) state
