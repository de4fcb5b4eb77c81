use Rattle.std.proofs.Common.{◌≡◌, ◌<◌, ◌∙◌, ◌++◌, ◌∷◌, [], Some, None, get_or, set, length, ap, sym, subst, refl, arith, inr}
use Rattle.std.specs.Prelude.{vec_len}
use Rattle.node_turns.specs.Homes.{list_at, lists_of, ring_left, AreHomed, AreRinged}
use Rattle.node_turns.proofs.Homes.{counted_without, dropped_times, homed_without, list_read, lists_set, read_back, ringed_without, slot_below, unchanged}
use Rattle.node_turns.proofs.round_queue.RoundQueue.drop_last.Goals as goal

pub index_mut-requires : goal.index_mut-requires
index_mut-requires c =
    let long : vec_len c.args.self.now.queues ≡ length c.args.self.now.queues.items = (cc) in
    omega (arith, slot_below c.args.self.now.queues.items c.args.self.now.homes.items c.args.key c.in-Some.slot c.args.self.now.homed (sym c.home.ensures ∙ c.in-Some.is), long)

pub index-requires : goal.index-requires
index-requires c =
    let long : vec_len c.args.self.now.queues ≡ length c.args.self.now.queues.items = (cc) in
    omega (arith, slot_below c.args.self.now.queues.items c.args.self.now.homes.items c.args.key c.in-Some.slot c.args.self.now.homed (sym c.home.ensures ∙ c.in-Some.is), long)

home : (c : goal.After-leave) → get_or c.args.self.now.homes.items c.args.key None ≡ Some c.in-Some.slot
home c = sym c.home.ensures ∙ c.in-Some.is

below : (c : goal.After-leave) → c.in-Some.slot < length c.args.self.now.queues.items
below c = slot_below c.args.self.now.queues.items c.args.self.now.homes.items c.args.key c.in-Some.slot c.args.self.now.homed (home c)

split : (c : goal.After-leave) → list_at (lists_of c.args.self.now.queues.items) c.in-Some.slot ≡ c.drop_last.new.self.keys.items ++ c.args.key ∷ []
split c =
    list_read c.args.self.now.queues.items c.in-Some.slot c.index_mut.result.now (below c) c.index_mut.ensures.value
    ∙ c.drop_last.ensures.dropped c.if-not-drop_last.false

long : (c : goal.After-leave) → c.len.result ≡ length c.drop_last.new.self.keys.items
long c = c.len.ensures ∙ read_back c.args.self.now.queues.items c.in-Some.slot c.drop_last.new.self c.index.result.now (below c) c.index.ensures

pub invariant_of-self-2-clause-homed : goal.invariant_of-self-2-clause-homed
invariant_of-self-2-clause-homed c =
    let times = dropped_times c.args.self.now.queues.items c.args.self.now.homes.items c.args.key c.in-Some.slot c.drop_last.new.self.keys.items c.args.self.now.homed (home c) (split c) in
    homed_without c.args.self.now.queues.items c.args.self.now.homes.items c.in-Some.slot c.args.key c.drop_last.new.self c.args.self.now.homed (home c) times.0 times.1

pub invariant_of-self-2-clause-ringed : goal.invariant_of-self-2-clause-ringed
invariant_of-self-2-clause-ringed c =
    ringed_without c.args.self.now.queues.items c.args.self.now.homes.items c.args.self.now.ring.keys.items c.leave.new.ring.keys.items c.args.key c.in-Some.slot c.len.result
    c.drop_last.new.self c.args.self.now.homed c.args.self.now.ringed (home c) c.leave.ensures.ring (long c)

pub invariant_of-self-2-clause-counted : goal.invariant_of-self-2-clause-counted
invariant_of-self-2-clause-counted c =
    (counted_without c.args.self.now.homes.items c.args.key c.in-Some.slot c.args.self.now.len (home c) c.args.self.now.counted).1

pub returns-clause-dropped : goal.returns-clause-dropped
returns-clause-dropped c =
    let home : get_or c.args.self.now.homes.items c.args.key None ≡ Some c.in-Some.slot = sym c.home.ensures ∙ c.in-Some.is in
    let below : c.in-Some.slot < length c.args.self.now.queues.items =
    slot_below c.args.self.now.queues.items c.args.self.now.homes.items c.args.key c.in-Some.slot c.args.self.now.homed home in
    let long : c.len.result ≡ length c.drop_last.new.self.keys.items =
    c.len.ensures ∙ read_back c.args.self.now.queues.items c.in-Some.slot c.drop_last.new.self c.index.result.now below c.index.ensures in
    inr (
      c.in-Some.slot,
      c.drop_last.new.self.keys.items,
      list_read c.args.self.now.queues.items c.in-Some.slot c.index_mut.result.now below c.index_mut.ensures.value ∙ c.drop_last.ensures.dropped c.if-not-drop_last.false,
      record {
        was = home;
        home = refl;
        keys_left = lists_set c.args.self.now.queues.items c.in-Some.slot c.drop_last.new.self _ refl;
        ring = c.leave.ensures.ring ∙ ap (λ n. ring_left c.in-Some.slot n c.args.self.now.ring.keys.items) long;
      },
    )

same : (c : goal.Then-not-drop_last) → set c.args.self.now.queues.items c.in-Some.slot c.drop_last.new.self ≡ c.args.self.now.queues.items
same c =
    ap (set c.args.self.now.queues.items c.in-Some.slot) (c.drop_last.ensures.kept c.if-not-drop_last.true)
    ∙ unchanged c.args.self.now.queues.items c.in-Some.slot c.index_mut.result.now c.index_mut.ensures.value
    (slot_below c.args.self.now.queues.items c.args.self.now.homes.items c.args.key c.in-Some.slot c.args.self.now.homed (sym c.home.ensures ∙ c.in-Some.is))

pub invariant_of-self-clause-homed : goal.invariant_of-self-clause-homed
invariant_of-self-clause-homed c = subst (λ queues. AreHomed (lists_of queues) c.args.self.now.homes.items) (sym (same c)) c.args.self.now.homed

pub invariant_of-self-clause-ringed : goal.invariant_of-self-clause-ringed
invariant_of-self-clause-ringed c = subst (λ queues. AreRinged c.args.self.now.ring.keys.items (lists_of queues)) (sym (same c)) c.args.self.now.ringed
