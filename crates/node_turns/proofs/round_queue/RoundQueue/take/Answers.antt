use Rattle.std.proofs.Common.{◌≡◌, ◌<◌, ◌∙◌, ◌∷◌, ◌++◌, Some, None, get_or, length, ap, subst, refl, arith}
use Rattle.std.specs.Prelude.{vec_len}
use Rattle.node_turns.specs.Homes.{again, list_at, lists_of}
use Rattle.node_turns.proofs.Homes.{counted_without, front_home, home_below, homed_without, list_read, lists_set, read_back, ring_front, ring_once, ringed_taken, taken_times}
use Rattle.node_turns.proofs.round_queue.RoundQueue.take.Goals as goal

pub index_mut-requires : goal.index_mut-requires
index_mut-requires c =
    let long : vec_len c.args.self.now.queues ≡ length c.args.self.now.queues.items = (cc) in
    omega (
      arith,
      (ring_front c.args.self.now.queues.items c.args.self.now.ring.keys.items c.take.new.self.keys.items c.in_ok-slot.slot c.args.self.now.ringed
          c.in_ok-slot.ensures.taken).0,
      long,
    )

pub take-key-requires : goal.take-key-requires
take-key-requires c =
    let front = ring_front c.args.self.now.queues.items c.args.self.now.ring.keys.items c.take.new.self.keys.items c.in_ok-slot.slot c.args.self.now.ringed c.in_ok-slot.ensures.taken in
    subst (λ keys. 0 < length keys) (list_read c.args.self.now.queues.items c.in_ok-slot.slot c.index_mut.result.now front.0 c.index_mut.ensures.value) front.1

home : (c : goal.After-index_mut-arg-2-1) → get_or c.args.self.now.homes.items c.take-key.result None ≡ Some c.in_ok-slot.slot
home c =
    (front_home c.args.self.now.queues.items c.args.self.now.homes.items c.args.self.now.ring.keys.items c.take.new.self.keys.items c.take-key.new.self.keys.items c.in_ok-slot.slot
    c.take-key.result c.index_mut.result.now c.args.self.now.homed c.args.self.now.ringed c.in_ok-slot.ensures.taken c.index_mut.ensures.value c.take-key.ensures).0

pub index_mut-requires-2 : goal.index_mut-requires-2
index_mut-requires-2 c =
    let long : vec_len c.args.self.now.homes ≡ length c.args.self.now.homes.items = (cc) in
    omega (arith, home_below c.args.self.now.homes.items c.take-key.result c.in_ok-slot.slot (home c), long)

pub overflow_sub-self : goal.overflow_sub-self
overflow_sub-self c =
    (counted_without c.args.self.now.homes.items c.take-key.result c.in_ok-slot.slot c.args.self.now.len
    (front_home c.args.self.now.queues.items c.args.self.now.homes.items c.args.self.now.ring.keys.items c.take.new.self.keys.items c.take-key.new.self.keys.items c.in_ok-slot.slot
    c.take-key.result c.index_mut.result.now c.args.self.now.homed c.args.self.now.ringed c.in_ok-slot.ensures.taken c.index_mut.ensures.value c.take-key.ensures).0
    c.args.self.now.counted).0

pub index-requires : goal.index-requires
index-requires c =
    let long : vec_len c.args.self.now.queues ≡ length c.args.self.now.queues.items = (cc) in
    omega (
      arith,
      (ring_front c.args.self.now.queues.items c.args.self.now.ring.keys.items c.take.new.self.keys.items c.in_ok-slot.slot c.args.self.now.ringed
          c.in_ok-slot.ensures.taken).0,
      long,
    )

pub rejoin-requires-clause-absent : goal.rejoin-requires-clause-absent
rejoin-requires-clause-absent c =
    ring_once c.args.self.now.ring.keys.items c.take.new.self.keys.items c.args.self.now.ring.flags.items c.in_ok-slot.slot c.args.self.now.ring.flagged c.in_ok-slot.ensures.taken

pub rejoin-requires-clause-within : goal.rejoin-requires-clause-within
rejoin-requires-clause-within c =
    let long : vec_len c.args.self.now.queues ≡ length c.args.self.now.queues.items = (cc) in
    omega (
      arith,
      (ring_front c.args.self.now.queues.items c.args.self.now.ring.keys.items c.take.new.self.keys.items c.in_ok-slot.slot c.args.self.now.ringed
          c.in_ok-slot.ensures.taken).0,
      long,
      c.in_ok-slot.ensures.count,
      c.args.self.now.as_many,
    )

own : (c : goal.After-rejoin) → (get_or c.args.self.now.homes.items c.take-key.result None ≡ Some c.in_ok-slot.slot)
    × (list_at (lists_of c.args.self.now.queues.items) c.in_ok-slot.slot ≡ c.take-key.result ∷ c.take-key.new.self.keys.items)
own c =
    front_home c.args.self.now.queues.items c.args.self.now.homes.items c.args.self.now.ring.keys.items c.take.new.self.keys.items c.take-key.new.self.keys.items c.in_ok-slot.slot
    c.take-key.result c.index_mut.result.now c.args.self.now.homed c.args.self.now.ringed c.in_ok-slot.ensures.taken c.index_mut.ensures.value c.take-key.ensures

pub invariant_of-self-2-clause-homed : goal.invariant_of-self-2-clause-homed
invariant_of-self-2-clause-homed c =
    let times = taken_times c.args.self.now.queues.items c.args.self.now.homes.items c.take-key.result c.in_ok-slot.slot c.take-key.new.self.keys.items c.args.self.now.homed (own c).0 (own c).1 in
    homed_without c.args.self.now.queues.items c.args.self.now.homes.items c.in_ok-slot.slot c.take-key.result c.take-key.new.self c.args.self.now.homed (own c).0 times.0 times.1

pub invariant_of-self-2-clause-ringed : goal.invariant_of-self-2-clause-ringed
invariant_of-self-2-clause-ringed c =
    let below = (ring_front c.args.self.now.queues.items c.args.self.now.ring.keys.items c.take.new.self.keys.items c.in_ok-slot.slot c.args.self.now.ringed c.in_ok-slot.ensures.taken).0 in
    ringed_taken c.args.self.now.queues.items c.args.self.now.ring.keys.items c.take.new.self.keys.items c.rejoin.new.ring.keys.items c.in_ok-slot.slot c.len.result c.take-key.new.self
    c.args.self.now.ringed c.in_ok-slot.ensures.taken
    (ring_once c.args.self.now.ring.keys.items c.take.new.self.keys.items c.args.self.now.ring.flags.items c.in_ok-slot.slot c.args.self.now.ring.flagged c.in_ok-slot.ensures.taken)
    c.rejoin.ensures.ring
    (c.len.ensures ∙ read_back c.args.self.now.queues.items c.in_ok-slot.slot c.take-key.new.self c.index.result.now below c.index.ensures)

pub invariant_of-self-2-clause-counted : goal.invariant_of-self-2-clause-counted
invariant_of-self-2-clause-counted c =
    (counted_without c.args.self.now.homes.items c.take-key.result c.in_ok-slot.slot c.args.self.now.len (own c).0 c.args.self.now.counted).1

pub returns-clause-taken : goal.returns-clause-taken
returns-clause-taken c =
    let below = (ring_front c.args.self.now.queues.items c.args.self.now.ring.keys.items c.take.new.self.keys.items c.in_ok-slot.slot c.args.self.now.ringed c.in_ok-slot.ensures.taken).0 in
    record {
      slot = c.in_ok-slot.slot;
      others = c.take.new.self.keys.items;
      left = c.take-key.new.self.keys.items;
      first = c.in_ok-slot.ensures.taken;
      front = list_read c.args.self.now.queues.items c.in_ok-slot.slot c.index_mut.result.now below c.index_mut.ensures.value ∙ c.take-key.ensures;
      was = (front_home c.args.self.now.queues.items c.args.self.now.homes.items c.args.self.now.ring.keys.items c.take.new.self.keys.items c.take-key.new.self.keys.items
          c.in_ok-slot.slot c.take-key.result c.index_mut.result.now c.args.self.now.homed c.args.self.now.ringed c.in_ok-slot.ensures.taken c.index_mut.ensures.value
          c.take-key.ensures).0;
      home = refl;
      keys = lists_set c.args.self.now.queues.items c.in_ok-slot.slot c.take-key.new.self _ refl;
      ring = c.rejoin.ensures.ring ∙ ap (λ n. c.take.new.self.keys.items ++ again c.in_ok-slot.slot n)
          (c.len.ensures ∙ read_back c.args.self.now.queues.items c.in_ok-slot.slot c.take-key.new.self c.index.result.now below c.index.ensures);
    }
