use Rattle.std.proofs.Common.{refl, sym}
use Rattle.node_table.proofs.Held.{bounded_after_same, counted_after_same}
use Rattle.node_table.proofs.Invariants.{known_after_write, others_after_write, size_after_write}
use Rattle.node_table.proofs.Written.{connections_written}
use Rattle.node_table.proofs.table.Table.note_event.Goals as goal

pub returns-in-Some-clause-connections : goal.returns-in-Some-clause-connections
returns-in-Some-clause-connections g c = λ key peer is.
    connections_written c.args.self.now.peers c.args.key c.in-Some.peer.now _ (sym c.in-Some.ensures.value) refl key peer is

pub invariant_of-self-clause-counted : goal.invariant_of-self-clause-counted
invariant_of-self-clause-counted g c = counted_after_same c.args.self.now.peers.slots c.args.key c.in-Some.peer.now _ _ (sym c.in-Some.ensures.value) c.args.self.now.counted refl

pub returns-in-Some-clause-others : goal.returns-in-Some-clause-others
returns-in-Some-clause-others g c = others_after_write c.args.self.now.peers c.args.key c.in-Some.peer.now _ (sym c.in-Some.ensures.value)

pub returns-in-Some-clause-size : goal.returns-in-Some-clause-size
returns-in-Some-clause-size g c = size_after_write c.args.self.now.peers.slots c.args.key c.in-Some.peer.now _ (sym c.in-Some.ensures.value)

pub returns-in-Some-clause-held : goal.returns-in-Some-clause-held
returns-in-Some-clause-held g c = sym (counted_after_same c.args.self.now.peers.slots c.args.key c.in-Some.peer.now _ _ (sym c.in-Some.ensures.value) refl refl)

pub invariant_of-self-clause-bounded : goal.invariant_of-self-clause-bounded
invariant_of-self-clause-bounded g c = bounded_after_same c.args.self.now.peers.slots c.args.key c.in-Some.peer.now _ (sym c.in-Some.ensures.value) refl c.args.self.now.bounded

pub invariant_of-self-clause-known : goal.invariant_of-self-clause-known
invariant_of-self-clause-known g c =
    known_after_write c.args.self.now.peers c.args.key c.in-Some.peer.now _ c.args.self.now.ready c.args.self.now.ready
    (sym c.in-Some.ensures.value) c.args.self.now.known (λ other is. is)
