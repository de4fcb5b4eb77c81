use Rattle.std.proofs.Common.{◌≡◌, ◌<◌, ◌∙◌, ◌++◌, ◌∷◌, [], None, get_or, set, length, ap, sym, subst, refl, arith, inr}
use Rattle.std.specs.Prelude.{vec_len}
use Rattle.std.proofs.lemmas.List.{get_or_read}
use Rattle.node_turns.specs.Homes.{list_at, lists_of, AreHomed, AreRinged}
use Rattle.node_turns.proofs.Homes.{counted_with, homed_with, list_read, lists_set, none_of, ringed_added, same_lists_of}
use Rattle.node_turns.proofs.round_queue.RoundQueue.add.Goals as goal

same : (c : goal.Then-not-push) → lists_of (set c.args.self.now.queues.items c.args.slot c.push.new.self) ≡ lists_of c.args.self.now.queues.items
same c =
    let long : vec_len c.args.self.now.queues ≡ length c.args.self.now.queues.items = (cc) in
    let below : c.args.slot < length c.args.self.now.queues.items = omega (arith, c.requires.slot, long) in
    same_lists_of c.args.self.now.queues.items c.args.slot c.push.new.self below
    (c.if-not-push.ensures ∙ sym (list_read c.args.self.now.queues.items c.args.slot c.index_mut.result.now below c.index_mut.ensures.value))

pub invariant_of-self-clause-homed : goal.invariant_of-self-clause-homed
invariant_of-self-clause-homed c = subst (λ lists. AreHomed lists c.args.self.now.homes.items) (sym (same c)) c.args.self.now.homed

pub invariant_of-self-clause-ringed : goal.invariant_of-self-clause-ringed
invariant_of-self-clause-ringed c = subst (λ lists. AreRinged c.args.self.now.ring.keys.items lists) (sym (same c)) c.args.self.now.ringed

pub returns-then-not-push-clause-kept : goal.returns-then-not-push-clause-kept
returns-then-not-push-clause-kept c = λ _.
    let long : vec_len c.args.self.now.queues ≡ length c.args.self.now.queues.items = (cc) in
    let below : c.args.slot < length c.args.self.now.queues.items = omega (arith, c.requires.slot, long) in
    record {
      homes = refl;
      lists = same_lists_of c.args.self.now.queues.items c.args.slot c.push.new.self below
          (c.if-not-push.ensures ∙ sym (list_read c.args.self.now.queues.items c.args.slot c.index_mut.result.now below c.index_mut.ensures.value));
      ring = refl;
    }

below : (c : goal.After-add) → c.args.slot < length c.args.self.now.queues.items
below c = let long : vec_len c.args.self.now.queues ≡ length c.args.self.now.queues.items = (cc) in omega (arith, c.requires.slot, long)

within : (c : goal.After-add) → c.args.key < length c.args.self.now.homes.items
within c = let long : vec_len c.args.self.now.homes ≡ length c.args.self.now.homes.items = (cc) in omega (arith, c.requires.key, long)

free : (c : goal.After-add) → get_or c.args.self.now.homes.items c.args.key None ≡ None
free c =
    sym (get_or_read c.args.self.now.homes.items c.args.key c.index.result.now (within c) c.index.ensures None)
    ∙ none_of c.index.result.now (sym c.is_some.ensures ∙ c.if-is_some.false)

keys : (c : goal.After-add) → c.push.new.self.keys.items ≡ list_at (lists_of c.args.self.now.queues.items) c.args.slot ++ c.args.key ∷ []
keys c =
    c.if-not-push.ensures
    ∙ ap (λ l. l ++ c.args.key ∷ []) (sym (list_read c.args.self.now.queues.items c.args.slot c.index_mut.result.now (below c) c.index_mut.ensures.value))

pub invariant_of-self-2-clause-homed : goal.invariant_of-self-2-clause-homed
invariant_of-self-2-clause-homed c =
    homed_with c.args.self.now.queues.items c.args.self.now.homes.items c.args.slot c.args.key c.push.new.self c.args.self.now.homed (free c) (within c) (below c) (keys c)

pub invariant_of-self-2-clause-ringed : goal.invariant_of-self-2-clause-ringed
invariant_of-self-2-clause-ringed c =
    ringed_added c.args.self.now.queues.items c.args.self.now.ring.keys.items c.add.new.self.keys.items _ c.args.slot c.args.key c.push.new.self c.args.self.now.ringed (below c)
    c.add.ensures.added (keys c)

pub invariant_of-self-2-clause-counted : goal.invariant_of-self-2-clause-counted
invariant_of-self-2-clause-counted c =
    counted_with c.args.self.now.homes.items c.args.key c.args.slot c.args.self.now.len (within c) (free c) c.args.self.now.counted

pub returns-clause-added : goal.returns-clause-added
returns-clause-added c = λ _.
    let long : vec_len c.args.self.now.queues ≡ length c.args.self.now.queues.items = (cc) in
    let many : vec_len c.args.self.now.homes ≡ length c.args.self.now.homes.items = (cc) in
    let below : c.args.slot < length c.args.self.now.queues.items = omega (arith, c.requires.slot, long) in
    let within : c.args.key < length c.args.self.now.homes.items = omega (arith, c.requires.key, many) in
    inr (record {
      was =
          sym (get_or_read c.args.self.now.homes.items c.args.key c.index.result.now within c.index.ensures None)
          ∙ none_of c.index.result.now (sym c.is_some.ensures ∙ c.if-is_some.false);
      home = refl;
      keys = lists_set c.args.self.now.queues.items c.args.slot c.push.new.self _
          (c.if-not-push.ensures
          ∙ ap (λ l. l ++ c.args.key ∷ []) (sym (list_read c.args.self.now.queues.items c.args.slot c.index_mut.result.now below c.index_mut.ensures.value)));
      ring = c.add.ensures.added;
    })
