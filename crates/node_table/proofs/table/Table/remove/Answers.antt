use Rattle.std.proofs.Common.{arith, refl, sym, subst}
use Rattle.node_table.specs.Logs.{Closed}
use Rattle.node_table.proofs.Held.{bounded_after_removal, counted_after_removal, held_after_removal, own_is_within}
use Rattle.node_table.proofs.Invariants.{known_after_removal, never_none}
use Rattle.node_table.proofs.table.Table.remove.Goals as goal

pub invariant_of-self-2-clause-counted : goal.invariant_of-self-2-clause-counted
invariant_of-self-2-clause-counted g c =
    counted_after_removal _ _ _ _ _ _ (sym c.in-Some.ensures.value) c.in-Some.ensures.slots c.args.self.now.counted c.held.ensures.held

pub returns-clause-removed : goal.returns-clause-removed
returns-clause-removed g c = λ there. record {
  peer = c.in-Some.peer;
  was = sym c.in-Some.ensures.value;
  recorded = subst (λ n. g.L.Log.records c.args.log.now (Closed c.in-Some.peer.addr c.in-Some.peer.connection c.args.cause n) c.on_close.new.self) c.micros.ensures c.on_close.ensures;
  gone = c.in-Some.ensures.updates.changed;
  others = c.in-Some.ensures.updates.others;
  size = c.in-Some.ensures.len;
  ready = c.remove.ensures.removed;
  clients = refl;
  held = held_after_removal _ _ _ _ (sym c.in-Some.ensures.value) c.in-Some.ensures.slots;
}

pub overflow_sub-self : goal.overflow_sub-self
overflow_sub-self g c = own_is_within c.args.self.now.peers.slots c.args.key _ _ _ (sym c.in-Some.ensures.value) c.args.self.now.counted c.held.ensures.held

pub invariant_of-self-2-clause-few : goal.invariant_of-self-2-clause-few
invariant_of-self-2-clause-few g c = omega (arith, c.args.self.now.few, c.in-Some.ensures.len)

pub returns-clause-absent : goal.returns-clause-absent
returns-clause-absent g c = λ none. never_none _ c.in-Some.peer (sym c.in-Some.ensures.value) none

pub invariant_of-self-2-clause-bounded : goal.invariant_of-self-2-clause-bounded
invariant_of-self-2-clause-bounded g c = bounded_after_removal _ _ _ _ (sym c.in-Some.ensures.value) c.in-Some.ensures.slots c.args.self.now.bounded

pub invariant_of-self-2-clause-known : goal.invariant_of-self-2-clause-known
invariant_of-self-2-clause-known g c =
    known_after_removal _ _ _ c.args.self.now.ready c.remove.new.self c.in-Some.ensures.updates c.args.self.now.known c.remove.ensures.ready
