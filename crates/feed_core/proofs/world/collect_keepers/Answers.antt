use Rattle.std.proofs.Common.{length, ap, arith, ◌≡◌}
use Rattle.feed_core.specs.Slots.{IsSlotClean, HasSlotState, slot_count}
use Rattle.std.proofs.lemmas.List.{nil_from_length}
use Rattle.feed_core.proofs.WorldSteps.{IsKeptOf, done_start, done_next, done_all, done_count, kept_clean, kept_all}
use Rattle.feed_core.proofs.Counts.{each_of}
use Rattle.feed_core.proofs.world.collect_keepers.Goals as goal

pub loop-node-init : goal.loop-node-init
loop-node-init g c = record {
  so = done_start (IsKeptOf (IsSlotClean g.K.Keep.clean) (HasSlotState g.K.Keep.content g.K.Keep.listed) g.K.Keep.clean g.K.Keep.content g.K.Keep.listed) c.args.nodes.items
      c.into_iter-node-iterator.result.rest.items c.args.room.items c.into_iter-node-iterator.ensures.into_iter_gives.0 c.requires.empty;
  counts = done_start (λ s k. (g.K.Keep.failed k ≡ slot_count g.K.Keep.failed s) × (g.K.Keep.loads k ≡ slot_count g.K.Keep.loads s)) c.args.nodes.items
      c.into_iter-node-iterator.result.rest.items c.args.room.items c.into_iter-node-iterator.ensures.into_iter_gives.0 c.requires.empty;
  room = c.requires.room;
}

pub push_reserved-requires : goal.push_reserved-requires
push_reserved-requires g c =
    omega (
      arith,
      done_count (IsKeptOf (IsSlotClean g.K.Keep.clean)
          (HasSlotState g.K.Keep.content g.K.Keep.listed) g.K.Keep.clean g.K.Keep.content g.K.Keep.listed) c.args.nodes.items c.loop-node.node-iterator.rest.items c.loop-node.keepers.items
          c.loop-node.invariant.so,
      ap
          (λ xs. length xs) c.in-Some.ensures.steps.0,
      c.loop-node.invariant.room,
      c.loop-node.keepers.ok.0,
      c.args.nodes.ok.0,
    )

pub loop-node-preserved : goal.loop-node-preserved
loop-node-preserved g c = record {
  so = done_next (IsKeptOf (IsSlotClean g.K.Keep.clean)
      (HasSlotState g.K.Keep.content g.K.Keep.listed) g.K.Keep.clean g.K.Keep.content g.K.Keep.listed) c.args.nodes.items c.loop-node.node-iterator.rest.items c.next.new.self.rest.items
      c.loop-node.keepers.items
      c.push_reserved.new.self.items c.in-Some.node c.into_keeper.result c.loop-node.invariant.so c.in-Some.ensures.steps.0
      (c.into_keeper.ensures.clean, c.into_keeper.ensures.content) c.push_reserved.ensures.items;
  counts = done_next (λ s k. (g.K.Keep.failed k ≡ slot_count g.K.Keep.failed s) × (g.K.Keep.loads k ≡ slot_count g.K.Keep.loads s)) c.args.nodes.items c.loop-node.node-iterator.rest.items
      c.next.new.self.rest.items c.loop-node.keepers.items
      c.push_reserved.new.self.items c.in-Some.node c.into_keeper.result c.loop-node.invariant.counts c.in-Some.ensures.steps.0
      (c.into_keeper.ensures.failed, c.into_keeper.ensures.unloaded) c.push_reserved.ensures.items;
  room = omega (arith, c.loop-node.invariant.room, c.push_reserved.ensures.capacity);
}

pub returns-clause-clean : goal.returns-clause-clean
returns-clause-clean g c =
    λ chosen all. kept_clean chosen (IsSlotClean g.K.Keep.clean) (HasSlotState g.K.Keep.content g.K.Keep.listed) g.K.Keep.clean g.K.Keep.content g.K.Keep.listed c.args.nodes.items
    c.loop-node.keepers.items
    (done_all (IsKeptOf (IsSlotClean g.K.Keep.clean)
    (HasSlotState g.K.Keep.content g.K.Keep.listed) g.K.Keep.clean g.K.Keep.content g.K.Keep.listed) c.args.nodes.items c.loop-node.node-iterator.rest.items c.loop-node.keepers.items
    c.loop-node.invariant.so
    (nil_from_length c.loop-node.node-iterator.rest.items (omega (arith, c.loop-node.node-iterator.rest.ok.0, c.in-None.ensures.steps.0)))) all

pub returns-clause-kept : goal.returns-clause-kept
returns-clause-kept g c =
    λ chosen all w n. kept_all chosen (IsSlotClean g.K.Keep.clean) (HasSlotState g.K.Keep.content g.K.Keep.listed) g.K.Keep.clean g.K.Keep.content g.K.Keep.listed c.args.nodes.items
    c.loop-node.keepers.items w.nodes
    (done_all (IsKeptOf (IsSlotClean g.K.Keep.clean)
    (HasSlotState g.K.Keep.content g.K.Keep.listed) g.K.Keep.clean g.K.Keep.content g.K.Keep.listed) c.args.nodes.items c.loop-node.node-iterator.rest.items c.loop-node.keepers.items
    c.loop-node.invariant.so
    (nil_from_length c.loop-node.node-iterator.rest.items (omega (arith, c.loop-node.node-iterator.rest.ok.0, c.in-None.ensures.steps.0)))) all n

pub returns-clause-unloaded : goal.returns-clause-unloaded
returns-clause-unloaded g c =
    each_of _ 1 c.args.nodes.items c.loop-node.keepers.items
    (done_all (λ s k. (g.K.Keep.failed k ≡ slot_count g.K.Keep.failed s) × (g.K.Keep.loads k ≡ slot_count g.K.Keep.loads s)) c.args.nodes.items c.loop-node.node-iterator.rest.items
    c.loop-node.keepers.items c.loop-node.invariant.counts
    (nil_from_length c.loop-node.node-iterator.rest.items (omega (arith, c.loop-node.node-iterator.rest.ok.0, c.in-None.ensures.steps.0))))
