use Rattle.std.proofs.Common.{◌≡◌, ◌++◌}
use Rattle.node_site.specs.HoldingsEntries.{entries_at}
use Rattle.node_site.specs.HoldingsFaults.{first_fault}
use Rattle.node_site.specs.HoldingsIndex.{places_behind}
use Rattle.node_site.proofs.holdings_rows.add_rows.Given as goal

-- the entries so far and those behind the place are all; so is the first fault
abbrev pub invariant-loop-place : goal.invariant-loop-place
invariant-loop-place l = record {
  all : l.entries.items ++ entries_at l.text (places_behind l.text l.place) ≡ l.fn.entries.items ++ entries_at l.text (places_behind l.text l.from);
  fault : first_fault l.text (places_behind l.text l.from) ≡ first_fault l.text (places_behind l.text l.place);
}
