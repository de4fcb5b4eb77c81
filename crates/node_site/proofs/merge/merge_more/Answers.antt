use Rattle.std.proofs.Common.{arith}
use Rattle.node_site.proofs.merge.merge_more.Goals as goal

pub loop-preserved : goal.loop-preserved
loop-preserved c = record {
  merged = rw c.in_ok-push.ensures.items (c.next_entry.ensures.merged c.loop.merged.items c.loop.invariant.merged);
  counted = omega (arith, c.next_entry.ensures.more, c.loop.invariant.counted);
}
