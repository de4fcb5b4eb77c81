use Rattle.std.proofs.Common.{◌≡◌, ◌<◌, ◌∙◌, Some, None, get_or, length, ap, sym, refl, arith, inr}
use Rattle.std.specs.Prelude.{vec_len}
use Rattle.node_turns.specs.Flags.{times, without}
use Rattle.node_turns.specs.Homes.{list_at, lists_of, ring_left}
use Rattle.node_turns.proofs.Homes.{counted_without, homed_without, list_read, lists_set, read_back, ringed_without, slot_below}
use Rattle.node_turns.proofs.Without.{times_other, times_same}
use Rattle.node_turns.proofs.round_queue.RoundQueue.remove.Goals as goal

pub index_mut-requires : goal.index_mut-requires
index_mut-requires c =
    let long : vec_len c.args.self.now.queues ≡ length c.args.self.now.queues.items = (cc) in
    omega (arith, slot_below c.args.self.now.queues.items c.args.self.now.homes.items c.args.key c.in-Some.slot c.args.self.now.homed (sym c.home.ensures ∙ c.in-Some.is), long)

home : (c : goal.After-leave) → get_or c.args.self.now.homes.items c.args.key None ≡ Some c.in-Some.slot
home c = sym c.home.ensures ∙ c.in-Some.is

below : (c : goal.After-leave) → c.in-Some.slot < length c.args.self.now.queues.items
below c = slot_below c.args.self.now.queues.items c.args.self.now.homes.items c.args.key c.in-Some.slot c.args.self.now.homed (home c)

old : (c : goal.After-leave) → list_at (lists_of c.args.self.now.queues.items) c.in-Some.slot ≡ c.index_mut.result.now.keys.items
old c = list_read c.args.self.now.queues.items c.in-Some.slot c.index_mut.result.now (below c) c.index_mut.ensures.value

keys : (c : goal.After-leave) → c.remove.new.self.keys.items ≡ without c.args.key (list_at (lists_of c.args.self.now.queues.items) c.in-Some.slot)
keys c = c.remove.ensures ∙ ap (without c.args.key) (sym (old c))

long : (c : goal.After-leave) → c.len.result ≡ length c.remove.new.self.keys.items
long c = c.len.ensures ∙ read_back c.args.self.now.queues.items c.in-Some.slot c.remove.new.self c.index.result.now (below c) c.index.ensures

pub invariant_of-self-clause-homed : goal.invariant_of-self-clause-homed
invariant_of-self-clause-homed c =
    homed_without c.args.self.now.queues.items c.args.self.now.homes.items c.in-Some.slot c.args.key c.remove.new.self c.args.self.now.homed (home c)
    (ap (times c.args.key) (keys c) ∙ times_same c.args.key (list_at (lists_of c.args.self.now.queues.items) c.in-Some.slot))
    (λ other apart. ap (times other) (keys c) ∙ times_other c.args.key other (list_at (lists_of c.args.self.now.queues.items) c.in-Some.slot) apart)

pub invariant_of-self-clause-ringed : goal.invariant_of-self-clause-ringed
invariant_of-self-clause-ringed c =
    ringed_without c.args.self.now.queues.items c.args.self.now.homes.items c.args.self.now.ring.keys.items c.leave.new.ring.keys.items c.args.key c.in-Some.slot c.len.result
    c.remove.new.self c.args.self.now.homed c.args.self.now.ringed (home c) c.leave.ensures.ring (long c)

pub invariant_of-self-clause-counted : goal.invariant_of-self-clause-counted
invariant_of-self-clause-counted c =
    (counted_without c.args.self.now.homes.items c.args.key c.in-Some.slot c.args.self.now.len (home c) c.args.self.now.counted).1

pub index-requires : goal.index-requires
index-requires c =
    let long : vec_len c.args.self.now.queues ≡ length c.args.self.now.queues.items = (cc) in
    omega (arith, slot_below c.args.self.now.queues.items c.args.self.now.homes.items c.args.key c.in-Some.slot c.args.self.now.homed (sym c.home.ensures ∙ c.in-Some.is), long)

pub returns-clause-removed : goal.returns-clause-removed
returns-clause-removed c =
    let home : get_or c.args.self.now.homes.items c.args.key None ≡ Some c.in-Some.slot = sym c.home.ensures ∙ c.in-Some.is in
    let below : c.in-Some.slot < length c.args.self.now.queues.items =
    slot_below c.args.self.now.queues.items c.args.self.now.homes.items c.args.key c.in-Some.slot c.args.self.now.homed home in
    let keys : c.remove.new.self.keys.items ≡ without c.args.key (list_at (lists_of c.args.self.now.queues.items) c.in-Some.slot) =
    c.remove.ensures ∙ ap (without c.args.key) (sym (list_read c.args.self.now.queues.items c.in-Some.slot c.index_mut.result.now below c.index_mut.ensures.value)) in
    let long : c.len.result ≡ length c.remove.new.self.keys.items =
    c.len.ensures ∙ read_back c.args.self.now.queues.items c.in-Some.slot c.remove.new.self c.index.result.now below c.index.ensures in
    inr (
      c.in-Some.slot,
      record {
        was = home;
        home = refl;
        keys_left = lists_set c.args.self.now.queues.items c.in-Some.slot c.remove.new.self _ keys;
        ring = c.leave.ensures.ring ∙ ap (λ n. ring_left c.in-Some.slot n c.args.self.now.ring.keys.items) (long ∙ ap length keys);
      },
    )
