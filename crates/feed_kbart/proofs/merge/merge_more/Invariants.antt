use Rattle.std.proofs.Common.{◌≡◌, ◌+◌}
use Rattle.feed_kbart.specs.Entries.{AreMerged}
use Rattle.feed_kbart.proofs.merge.merge_more.Given as goal

-- as many more entries as the counter says are merged
abbrev pub invariant-loop : goal.invariant-loop
invariant-loop l = record {
  merged : AreMerged l.left l.right l.at.0 l.at.1 l.merged.items;
  counted : l.at.0 + l.at.1 ≡ l.fn.from.0 + l.fn.from.1 + l.counter;
}
