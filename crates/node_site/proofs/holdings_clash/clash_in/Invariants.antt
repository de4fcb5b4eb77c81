use Rattle.node_site.specs.HoldingsIndex.{IsPeacefulBelow}
use Rattle.node_site.proofs.holdings_clash.clash_in.Given as goal

abbrev pub invariant-loop-index : goal.invariant-loop-index
invariant-loop-index l = IsPeacefulBelow l.text l.entries l.index
