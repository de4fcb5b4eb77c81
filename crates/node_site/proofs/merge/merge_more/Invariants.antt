use Rattle.std.proofs.Common.{◌≡◌, ◌+◌}
use Rattle.node_site.specs.HoldingsEntries.{AreMerged}
use Rattle.node_site.proofs.merge.merge_more.Given as goal

-- as many more entries as the counter says are merged
abbrev pub invariant-loop : goal.invariant-loop
invariant-loop l = record {
  merged : AreMerged l.text l.left l.right l.at.0 l.at.1 l.merged.items;
  counted : l.at.0 + l.at.1 ≡ l.fn.from.0 + l.fn.from.1 + l.counter;
}
