use Rattle.std.proofs.Common.{◌≡◌, IsSome, false, arith, refl, sym, subst, ap}
use Rattle.slab.specs.Slab.{with_value}
use Rattle.slab.proofs.SlabLemmas.{Updates-with_value}
use Rattle.node_connection.specs.States.{allocated_bytes}
use Rattle.node_turns.specs.Turns.{IsMarked}
use Rattle.node_table.specs.Peers.{IsClientSlot}
use Rattle.node_table.specs.Tables.{peer_at}
use Rattle.node_table.proofs.Firsts.{same_peer}
use Rattle.node_table.proofs.Held.{bounded_after_same, counted_after_same}
use Rattle.node_table.proofs.Invariants.{known_after_mark, known_after_write, size_after_write, there_after_write}
use Rattle.node_table.proofs.Written.{connections_written}
use Rattle.node_table.proofs.table.Table.mark_for_client.Goals as goal

pub returns-clause-marked : goal.returns-clause-marked
returns-clause-marked g c = λ peer is.
    let same : c.in-Some.peer.now ≡ peer = same_peer peer c.in-Some.peer.now (peer_at c.args.self.now c.args.key) is (sym c.in-Some.ensures.value) in (
      c.follow_client-slot.new.self,
      (Updates-with_value c.args.self.now.peers c.args.key c.follow_client-slot.new.self (subst (λ slot. IsSome slot) c.in-Some.ensures.value refl)).changed,
      subst (λ p. c.follow_client-slot.new.self.connection ≡ p.connection) same c.follow_client-slot.ensures.connection,
      subst (λ p. IsClientSlot p c.follow_client-slot.new.self.slot) same
          (subst (λ slot. IsClientSlot c.in-Some.peer.now slot) (sym c.follow_client-slot.ensures.placed) c.follow_client-slot.ensures.slot),
      subst (λ slot. IsMarked false slot c.args.key c.args.self.now.ready c.mark.new.self) (sym c.follow_client-slot.ensures.placed) c.mark.ensures.marked,
    )

pub returns-clause-connections : goal.returns-clause-connections
returns-clause-connections g c = λ key peer is.
    connections_written c.args.self.now.peers c.args.key c.in-Some.peer.now c.follow_client-slot.new.self (sym c.in-Some.ensures.value)
    c.follow_client-slot.ensures.connection key peer is

pub invariant_of-self-2-clause-counted : goal.invariant_of-self-2-clause-counted
invariant_of-self-2-clause-counted g c =
    counted_after_same c.args.self.now.peers.slots c.args.key c.in-Some.peer.now c.follow_client-slot.new.self _ (sym c.in-Some.ensures.value) c.args.self.now.counted
    (ap allocated_bytes c.follow_client-slot.ensures.connection)

pub invariant_of-self-2-clause-bounded : goal.invariant_of-self-2-clause-bounded
invariant_of-self-2-clause-bounded g c =
    bounded_after_same c.args.self.now.peers.slots c.args.key c.in-Some.peer.now c.follow_client-slot.new.self (sym c.in-Some.ensures.value)
    (ap allocated_bytes c.follow_client-slot.ensures.connection) c.args.self.now.bounded

pub invariant_of-self-2-clause-few : goal.invariant_of-self-2-clause-few
invariant_of-self-2-clause-few g c =
    omega (arith, c.args.self.now.few, size_after_write c.args.self.now.peers.slots c.args.key c.in-Some.peer.now c.follow_client-slot.new.self (sym c.in-Some.ensures.value))

pub invariant_of-self-2-clause-covered : goal.invariant_of-self-2-clause-covered
invariant_of-self-2-clause-covered g c = omega (arith, c.args.self.now.covered, c.mark.ensures.count)

pub invariant_of-self-2-clause-slotted : goal.invariant_of-self-2-clause-slotted
invariant_of-self-2-clause-slotted g c = omega (arith, c.args.self.now.slotted, c.mark.ensures.slots)

pub invariant_of-self-2-clause-known : goal.invariant_of-self-2-clause-known
invariant_of-self-2-clause-known g c =
    known_after_mark (with_value c.args.self.now.peers c.args.key c.follow_client-slot.new.self) c.args.key c.args.self.now.ready c.mark.new.self
    (there_after_write c.args.self.now.peers c.args.key c.in-Some.peer.now c.follow_client-slot.new.self (sym c.in-Some.ensures.value))
    (known_after_write c.args.self.now.peers c.args.key c.in-Some.peer.now c.follow_client-slot.new.self c.args.self.now.ready c.args.self.now.ready
    (sym c.in-Some.ensures.value) c.args.self.now.known (λ other is. is))
    c.mark.ensures.ready
