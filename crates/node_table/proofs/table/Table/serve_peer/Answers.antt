use Rattle.std.proofs.Common.{◌≡◌, IsSome, arith, refl, sym, subst}
use Rattle.slab.proofs.SlabLemmas.{Updates-with_value}
use Rattle.node_table.specs.Connections.{HasServed}
use Rattle.node_table.specs.Peers.{HasReceived}
use Rattle.node_table.specs.Tables.{peer_at}
use Rattle.node_table.proofs.Firsts.{same_peer}
use Rattle.node_table.proofs.Held.{bounded_after_write, counted_after_write, own_is_within}
use Rattle.node_table.proofs.Invariants.{known_after_write, never_none, others_after_write, size_after_write}
use Rattle.node_table.proofs.table.Table.serve_peer.Goals as goal

pub overflow_sub-rest : goal.overflow_sub-rest
overflow_sub-rest g c = own_is_within c.args.self.now.peers.slots c.args.turn.key _ _ _ (sym c.in-Some.ensures.value) c.args.self.now.counted c.held.ensures.held

pub overflow_add-self : goal.overflow_add-self
overflow_add-self g c = omega (arith, c.requires, c.args.self.now.counted, c.held-2.ensures.small)

pub invariant_of-self-2-clause-counted : goal.invariant_of-self-2-clause-counted
invariant_of-self-2-clause-counted g c =
    counted_after_write c.args.self.now.peers.slots c.args.turn.key c.in-Some.peer.now c.exchange-progress.new.self c.args.self.now.held c.held.result _
    (sym c.in-Some.ensures.value) c.args.self.now.counted c.held.ensures.held (omega (arith, c.held-2.ensures.held))

pub invariant_of-self-2-clause-bounded : goal.invariant_of-self-2-clause-bounded
invariant_of-self-2-clause-bounded g c =
    bounded_after_write c.args.self.now.peers.slots c.args.turn.key c.in-Some.peer.now c.exchange-progress.new.self (sym c.in-Some.ensures.value) c.requires

pub returns-clause-served : goal.returns-clause-served
returns-clause-served g c = λ peer is.
    let same : c.in-Some.peer.now ≡ peer = same_peer peer c.in-Some.peer.now (peer_at c.args.self.now c.args.turn.key) is (sym c.in-Some.ensures.value) in (
      c.exchange-progress.new.self,
      (Updates-with_value c.args.self.now.peers c.args.turn.key c.exchange-progress.new.self (subst (λ slot. IsSome slot) c.in-Some.ensures.value refl)).changed,
      subst (λ p. HasServed (g.S.Respond.wanted c.args.responder.now, g.S.Respond.responses c.args.responder.now) c.exchange-progress.result c.args.share.now
          c.exchange-progress.new.share p.connection c.exchange-progress.new.self.connection) same c.exchange-progress.ensures.served,
    )

pub invariant_of-self-clause-covered : goal.invariant_of-self-clause-covered
invariant_of-self-clause-covered g c = omega (arith, c.args.self.now.covered, c.drop_last.ensures.count)

pub invariant_of-self-2-clause-few : goal.invariant_of-self-2-clause-few
invariant_of-self-2-clause-few g c =
    omega (arith, c.args.self.now.few, size_after_write c.args.self.now.peers.slots c.args.turn.key c.in-Some.peer.now c.exchange-progress.new.self (sym c.in-Some.ensures.value))

pub invariant_of-self-2-clause-covered : goal.invariant_of-self-2-clause-covered
invariant_of-self-2-clause-covered g c = omega (arith, c.args.self.now.covered, c.drop_last.ensures.count)

pub returns-clause-absent : goal.returns-clause-absent
returns-clause-absent g c = λ none. never_none _ c.in-Some.peer.now (sym c.in-Some.ensures.value) none

pub returns-clause-others : goal.returns-clause-others
returns-clause-others g c = others_after_write c.args.self.now.peers c.args.turn.key c.in-Some.peer.now c.exchange-progress.new.self (sym c.in-Some.ensures.value)

pub returns-clause-size : goal.returns-clause-size
returns-clause-size g c = size_after_write c.args.self.now.peers.slots c.args.turn.key c.in-Some.peer.now c.exchange-progress.new.self (sym c.in-Some.ensures.value)

pub invariant_of-self-clause-known : goal.invariant_of-self-clause-known
invariant_of-self-clause-known g c = λ key is.
    c.args.self.now.known key (c.drop_last.ensures.ready key is)

pub invariant_of-self-2-clause-known : goal.invariant_of-self-2-clause-known
invariant_of-self-2-clause-known g c =
    known_after_write c.args.self.now.peers c.args.turn.key c.in-Some.peer.now c.exchange-progress.new.self c.args.self.now.ready c.drop_last.new.self
    (sym c.in-Some.ensures.value) c.args.self.now.known
    c.drop_last.ensures.ready

pub returns-clause-received : goal.returns-clause-received
returns-clause-received g c = λ peer is.
    subst (λ p. HasReceived g.T.Stream.has_blocked c.exchange-progress.result p)
    (same_peer peer c.exchange-progress.new.self _ is
    (Updates-with_value c.args.self.now.peers c.args.turn.key c.exchange-progress.new.self (subst (λ slot. IsSome slot) c.in-Some.ensures.value refl)).changed)
    c.exchange-progress.ensures.receives
