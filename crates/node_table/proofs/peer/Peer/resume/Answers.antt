use Rattle.std.proofs.Math.Logic.{∥∥₁_map}
use Rattle.node_table.proofs.peer.Peer.resume.Goals as goal

pub invariant_of-self : goal.invariant_of-self
invariant_of-self g c = record { stateful = ∥∥₁_map c.args.self.now.stateful (λ was. (_, c.resume.ensures.state was.0 was.1)); placed = c.args.self.now.placed }
