use Rattle.std.proofs.Common.{◌≡◌, IsSome, arith, refl, sym, subst}
use Rattle.slab.proofs.SlabLemmas.{Updates-with_value}
use Rattle.node_table.specs.Peers.{IsFollowed}
use Rattle.node_table.specs.Tables.{peer_at}
use Rattle.node_table.proofs.Firsts.{same_peer}
use Rattle.node_table.proofs.Held.{bounded_after_same, counted_after_same}
use Rattle.node_table.proofs.Invariants.{known_after_write, others_after_write, size_after_write}
use Rattle.node_table.proofs.table.Table.settle_peer.Goals as goal

pub invariant_of-self-clause-counted : goal.invariant_of-self-clause-counted
invariant_of-self-clause-counted g c =
    counted_after_same c.args.self.now.peers.slots c.args.key c.in-Some.peer.now c.settle.new.self _ (sym c.in-Some.ensures.value) c.args.self.now.counted c.settle.ensures.held

pub invariant_of-self-clause-bounded : goal.invariant_of-self-clause-bounded
invariant_of-self-clause-bounded g c =
    bounded_after_same c.args.self.now.peers.slots c.args.key c.in-Some.peer.now c.settle.new.self (sym c.in-Some.ensures.value) c.settle.ensures.held c.args.self.now.bounded

pub invariant_of-self-clause-few : goal.invariant_of-self-clause-few
invariant_of-self-clause-few g c =
    omega (arith, c.args.self.now.few, size_after_write c.args.self.now.peers.slots c.args.key c.in-Some.peer.now c.settle.new.self (sym c.in-Some.ensures.value))

pub returns-in-Some-clause-held : goal.returns-in-Some-clause-held
returns-in-Some-clause-held g c =
    omega (
      arith,
      c.args.self.now.counted,
      counted_after_same c.args.self.now.peers.slots c.args.key c.in-Some.peer.now c.settle.new.self _ (sym c.in-Some.ensures.value)
          c.args.self.now.counted c.settle.ensures.held,
    )

pub returns-in-Some-clause-followed : goal.returns-in-Some-clause-followed
returns-in-Some-clause-followed g c = λ peer is.
    let same : c.in-Some.peer.now ≡ peer = same_peer peer c.in-Some.peer.now (peer_at c.args.self.now c.args.key) is (sym c.in-Some.ensures.value) in (
      c.settle.new.self,
      (Updates-with_value c.args.self.now.peers c.args.key c.settle.new.self (subst (λ slot. IsSome slot) c.in-Some.ensures.value refl)).changed,
      subst (λ p. IsFollowed g.L.Log.records c.settle.result c.args.progress c.args.now p c.settle.new.self c.args.log.now c.settle.new.log) same c.settle.ensures.followed,
    )

pub returns-in-Some-clause-others : goal.returns-in-Some-clause-others
returns-in-Some-clause-others g c = others_after_write c.args.self.now.peers c.args.key c.in-Some.peer.now c.settle.new.self (sym c.in-Some.ensures.value)

pub returns-in-Some-clause-size : goal.returns-in-Some-clause-size
returns-in-Some-clause-size g c = size_after_write c.args.self.now.peers.slots c.args.key c.in-Some.peer.now c.settle.new.self (sym c.in-Some.ensures.value)

pub invariant_of-self-clause-known : goal.invariant_of-self-clause-known
invariant_of-self-clause-known g c =
    known_after_write c.args.self.now.peers c.args.key c.in-Some.peer.now c.settle.new.self c.args.self.now.ready c.args.self.now.ready
    (sym c.in-Some.ensures.value) c.args.self.now.known (λ other is. is)
