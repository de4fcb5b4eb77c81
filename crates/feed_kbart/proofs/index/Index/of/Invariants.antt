use Rattle.std.proofs.Common.{◌≡◌, ◌+◌}
use Rattle.feed_kbart.proofs.Merging.{AreInColumns}
use Rattle.feed_kbart.proofs.index.Index.of.Given as goal

-- as many entries as the counter says are in the columns
abbrev pub invariant-loop : goal.invariant-loop
invariant-loop l = record {
  columns : AreInColumns l.left.entries.items l.right.entries.items l.at.0 l.at.1 l.numbers.items l.places.items;
  counted : l.at.0 + l.at.1 ≡ l.counter;
}
