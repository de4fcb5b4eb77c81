use Rattle.std.proofs.Common.{◌≡◌, ◌≤◌}
use Rattle.std.specs.Prelude.{vec_len, vec_capacity}
use Rattle.feed_core.specs.Slots.{IsSlotClean, HasSlotState, slot_count}
use Rattle.feed_core.proofs.WorldSteps.{IsDoneUpTo, IsKeptOf}
use Rattle.feed_core.proofs.world.collect_keepers.Given as goal

-- the keepers so far are of the first nodes, with their counts, and there is room for the others
abbrev pub invariant-loop-node : goal.invariant-loop-node
invariant-loop-node g l = record {
  so : IsDoneUpTo (IsKeptOf (IsSlotClean g.K.Keep.clean) (HasSlotState g.K.Keep.content g.K.Keep.listed) g.K.Keep.clean g.K.Keep.content g.K.Keep.listed) l.fn.nodes.items
      l.node-iterator.rest.items l.keepers.items;
  counts : IsDoneUpTo (λ s k. (g.K.Keep.failed k ≡ slot_count g.K.Keep.failed s) × (g.K.Keep.loads k ≡ slot_count g.K.Keep.loads s)) l.fn.nodes.items l.node-iterator.rest.items l.keepers.items;
  room : vec_len l.fn.nodes ≤ vec_capacity l.keepers;
}
