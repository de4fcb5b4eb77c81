use Rattle.std.proofs.Common.{inl, inr, length, arith, ◌≡◌}
use Rattle.feed_keep.specs.Loads.{one_more}
use Rattle.feed_core.specs.Slots.{HasSlotState, slot_count}
use Rattle.feed_core.proofs.Empty.{start_more}
use Rattle.feed_core.proofs.WorldSteps.{done_next, done_all, done_count, done_at}
use Rattle.feed_core.proofs.Counts.{each_of}
use Rattle.std.proofs.lemmas.List.{nil_from_length}
use Rattle.feed_core.proofs.world.start_all.Goals as goal

pub loop-keeper-preserved : goal.loop-keeper-preserved
loop-keeper-preserved g c = record {
  so = done_next (λ k s. (slot_count g.K.Keep.failed s ≡ g.K.Keep.failed k) × (slot_count g.K.Keep.loads s ≡ one_more (g.K.Keep.loads k))) c.args.keepers.items
      c.loop-keeper.keeper-iterator.rest.items c.next.new.self.rest.items c.loop-keeper.nodes.items
      c.push.new.self.items c.in-Some.keeper c.in-Ok-start.slot c.loop-keeper.invariant.so c.in-Some.ensures.steps.0 (c.in-Ok-start.ensures.counted, c.in-Ok-start.ensures.loaded)
      c.in-Ok-push.ensures.items;
  in_state = λ chosen. start_more chosen
      (HasSlotState g.K.Keep.content g.K.Keep.listed) c.loop-keeper.nodes.items c.push.new.self.items c.in-Ok-start.slot c.in-Ok-push.ensures.items
      (c.loop-keeper.invariant.in_state chosen) c.in-Ok-start.ensures.ok;
}

pub returns-in-Err-clause-start : goal.returns-in-Err-clause-start
returns-in-Err-clause-start g c = elim c.start_fault.ensures [
  | inl memory ↦ rw memory.1 tt
  | inr other ↦ rw other.1 (record {
    before = c.in-Some.keeper;
    at = length c.loop-keeper.nodes.items;
    number = omega (arith, c.len-in-Err.ensures, c.loop-keeper.nodes.ok.0);
    given = done_at (λ k s. (slot_count g.K.Keep.failed s ≡ g.K.Keep.failed k) × (slot_count g.K.Keep.loads s ≡ one_more (g.K.Keep.loads k))) c.args.keepers.items
        c.loop-keeper.keeper-iterator.rest.items c.next.new.self.rest.items
        c.loop-keeper.nodes.items c.in-Some.keeper c.loop-keeper.invariant.so c.in-Some.ensures.steps.0;
    kept = c.in-Err.ensures.kept;
    was_clean = c.in-Err.ensures.kept_clean;
    rises = c.in-Err.ensures.device.rises;
    refused = c.in-Err.ensures.err other.0;
  })
]

pub returns-clause-count : goal.returns-clause-count
returns-clause-count g c =
    omega (
      arith,
      done_count
          (λ k s. (slot_count g.K.Keep.failed s ≡ g.K.Keep.failed k) × (slot_count g.K.Keep.loads s ≡ one_more (g.K.Keep.loads k))) c.args.keepers.items c.loop-keeper.keeper-iterator.rest.items
          c.loop-keeper.nodes.items c.loop-keeper.invariant.so,
      c.loop-keeper.keeper-iterator.rest.ok.0,
      c.in-None.ensures.steps.0,
      c.args.keepers.ok.0,
    )

pub returns-clause-loaded : goal.returns-clause-loaded
returns-clause-loaded g c =
    each_of _ 1 c.args.keepers.items c.loop-keeper.nodes.items
    (done_all (λ k s. (slot_count g.K.Keep.failed s ≡ g.K.Keep.failed k) × (slot_count g.K.Keep.loads s ≡ one_more (g.K.Keep.loads k))) c.args.keepers.items
    c.loop-keeper.keeper-iterator.rest.items c.loop-keeper.nodes.items c.loop-keeper.invariant.so
    (nil_from_length c.loop-keeper.keeper-iterator.rest.items (omega (arith, c.loop-keeper.keeper-iterator.rest.ok.0, c.in-None.ensures.steps.0))))
