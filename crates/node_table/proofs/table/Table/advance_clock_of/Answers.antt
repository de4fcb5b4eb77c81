use Rattle.std.proofs.Common.{arith, sym, subst}
use Rattle.node_table.specs.Peers.{IsLate}
use Rattle.node_table.specs.Tables.{peer_at}
use Rattle.node_table.proofs.Firsts.{same_peer}
use Rattle.node_table.proofs.Held.{bounded_after_same, counted_after_same}
use Rattle.node_table.proofs.Invariants.{known_after_write, others_after_write, size_after_write, there_after_write}
use Rattle.node_table.proofs.Written.{elapsed_written}
use Rattle.node_table.proofs.table.Table.advance_clock_of.Goals as goal

pub invariant_of-self-clause-counted : goal.invariant_of-self-clause-counted
invariant_of-self-clause-counted g c =
    counted_after_same c.args.self.now.peers.slots c.args.key c.in-Some.peer.now c.advance_clock.new.self _ (sym c.in-Some.ensures.value) c.args.self.now.counted c.advance_clock.ensures.held

pub invariant_of-self-clause-bounded : goal.invariant_of-self-clause-bounded
invariant_of-self-clause-bounded g c =
    bounded_after_same c.args.self.now.peers.slots c.args.key c.in-Some.peer.now c.advance_clock.new.self (sym c.in-Some.ensures.value) c.advance_clock.ensures.held c.args.self.now.bounded

pub invariant_of-self-clause-few : goal.invariant_of-self-clause-few
invariant_of-self-clause-few g c =
    omega (arith, c.args.self.now.few, size_after_write c.args.self.now.peers.slots c.args.key c.in-Some.peer.now c.advance_clock.new.self (sym c.in-Some.ensures.value))

pub returns-in-Some-clause-held : goal.returns-in-Some-clause-held
returns-in-Some-clause-held g c =
    omega (
      arith,
      c.args.self.now.counted,
      counted_after_same c.args.self.now.peers.slots c.args.key c.in-Some.peer.now c.advance_clock.new.self _ (sym c.in-Some.ensures.value)
          c.args.self.now.counted c.advance_clock.ensures.held,
    )

pub returns-in-Some-clause-elapsed : goal.returns-in-Some-clause-elapsed
returns-in-Some-clause-elapsed g c = λ peer is.
    elapsed_written c.args.self.now.peers c.args.key c.in-Some.peer.now c.advance_clock.new.self (sym c.in-Some.ensures.value) c.args.now c.advance_clock.ensures.elapsed peer is

pub returns-in-Some-clause-others : goal.returns-in-Some-clause-others
returns-in-Some-clause-others g c = others_after_write c.args.self.now.peers c.args.key c.in-Some.peer.now c.advance_clock.new.self (sym c.in-Some.ensures.value)

pub returns-in-Some-clause-size : goal.returns-in-Some-clause-size
returns-in-Some-clause-size g c = size_after_write c.args.self.now.peers.slots c.args.key c.in-Some.peer.now c.advance_clock.new.self (sym c.in-Some.ensures.value)

pub returns-in-Some-clause-late : goal.returns-in-Some-clause-late
returns-in-Some-clause-late g c = λ peer is late.
    subst (λ p. IsLate p c.args.now) (same_peer peer c.in-Some.peer.now (peer_at c.args.self.now c.args.key) is (sym c.in-Some.ensures.value)) (c.advance_clock.ensures.late late)

pub returns-in-Some-clause-in_time : goal.returns-in-Some-clause-in_time
returns-in-Some-clause-in_time g c = λ peer is early. (
  subst (λ p. ¬ (IsLate p c.args.now)) (same_peer peer c.in-Some.peer.now (peer_at c.args.self.now c.args.key) is (sym c.in-Some.ensures.value)) (c.advance_clock.ensures.in_time early),
  there_after_write c.args.self.now.peers c.args.key c.in-Some.peer.now c.advance_clock.new.self (sym c.in-Some.ensures.value),
)

pub returns-in-Some-clause-there : goal.returns-in-Some-clause-there
returns-in-Some-clause-there g c = λ late. there_after_write c.args.self.now.peers c.args.key c.in-Some.peer.now c.advance_clock.new.self (sym c.in-Some.ensures.value)

pub invariant_of-self-clause-known : goal.invariant_of-self-clause-known
invariant_of-self-clause-known g c =
    known_after_write c.args.self.now.peers c.args.key c.in-Some.peer.now c.advance_clock.new.self c.args.self.now.ready c.args.self.now.ready
    (sym c.in-Some.ensures.value) c.args.self.now.known (λ other is. is)
