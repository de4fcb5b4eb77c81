use Rattle.std.proofs.Common.{length}
use Rattle.node_pages.proofs.opening.+earliest.Given as goal

abbrev pub decreases-earliest : goal.decreases-earliest
decreases-earliest l = length l.hits.now
