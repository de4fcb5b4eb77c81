use Rattle.std.proofs.Common.{arith}
use Rattle.feed_kbart.proofs.Merging.{next_in_columns}
use Rattle.feed_kbart.proofs.index.Index.of.Goals as goal

pub loop-preserved : goal.loop-preserved
loop-preserved c = record {
  columns = next_in_columns c.args.left.now.entries.items c.args.right.now.entries.items c.loop.at.0 c.loop.at.1 c.next_entry.result.1.0 c.next_entry.result.1.1
      c.loop.numbers.items c.loop.places.items _ _ c.next_entry.result.0 c.loop.invariant.columns
      (rw (c.deref.ensures.value, c.deref-in-loop.ensures.value) at c.next_entry.ensures.merged) c.in_ok-push.ensures.items c.in_ok-push-2.ensures.items;
  counted = omega (arith, c.next_entry.ensures.more, c.loop.invariant.counted);
}
