use Rattle.node_site.specs.HoldingsIndex.{AreOnBelow}
use Rattle.node_site.proofs.on_listed.put_entries.Given as goal

-- the entries so far have given their packages places
abbrev pub invariant-loop-index : goal.invariant-loop-index
invariant-loop-index l = AreOnBelow l.text l.entries l.index l.places
