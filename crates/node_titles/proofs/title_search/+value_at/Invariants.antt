use Rattle.std.proofs.Common.{length}
use Rattle.node_titles.proofs.title_search.+value_at.Given as goal

abbrev pub decreases-value_at : goal.decreases-value_at
decreases-value_at l = length l.pairs.now
