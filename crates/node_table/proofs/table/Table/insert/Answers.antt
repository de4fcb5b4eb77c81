use Rattle.std.proofs.Common.{sym, ◌∙◌}
use Rattle.node_table.proofs.Held.{bounded_after_insert, held_after_insert}
use Rattle.node_table.proofs.Invariants.{known_after_update}
use Rattle.node_table.proofs.table.Table.insert.Goals as goal

pub invariant_of-self-clause-counted : goal.invariant_of-self-clause-counted
invariant_of-self-clause-counted g c =
    c.args.self.now.counted ∙ sym (held_after_insert _ _ _ _ c.insert_reserved.ensures.was_vacant c.insert_reserved.ensures.updates c.new-peer.ensures.held)

pub invariant_of-self-clause-bounded : goal.invariant_of-self-clause-bounded
invariant_of-self-clause-bounded g c =
    bounded_after_insert _ _ _ _ c.insert_reserved.ensures.was_vacant c.insert_reserved.ensures.updates c.new-peer.ensures.held c.args.self.now.bounded

pub invariant_of-self-clause-known : goal.invariant_of-self-clause-known
invariant_of-self-clause-known g c = known_after_update _ _ _ _ c.args.self.now.ready c.args.self.now.ready c.insert_reserved.ensures.updates c.args.self.now.known (λ other is. is)
