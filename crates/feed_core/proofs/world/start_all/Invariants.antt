use Rattle.std.proofs.Common.{length, ◌≡◌, ℕ, Bool}
use Rattle.feed_world.specs.World.{start}
use Rattle.feed_keep.specs.Loads.{one_more}
use Rattle.feed_core.specs.Slots.{HasSlotState, slot_count}
use Rattle.feed_core.specs.Step.{AreNodes}
use Rattle.feed_core.proofs.WorldSteps.{IsDoneUpTo}
use Rattle.feed_core.proofs.world.start_all.Given as goal

-- each keeper so far has a node at which nothing has happened, and was loaded once for it
abbrev pub invariant-loop-keeper : goal.invariant-loop-keeper
invariant-loop-keeper g l = record {
  so : IsDoneUpTo (λ k s. (slot_count g.K.Keep.failed s ≡ g.K.Keep.failed k) × (slot_count g.K.Keep.loads s ≡ one_more (g.K.Keep.loads k))) l.fn.keepers.items l.keeper-iterator.rest.items
      l.nodes.items;
  in_state : (chosen : ℕ → Bool) → AreNodes chosen (HasSlotState g.K.Keep.content g.K.Keep.listed) l.nodes.items (start (length l.nodes.items)).nodes;
}
