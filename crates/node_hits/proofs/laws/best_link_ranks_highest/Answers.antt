use Rattle.node_hits.proofs.BestLinks.{best_is}
use Rattle.node_hits.proofs.laws.best_link_ranks_highest.Goals as goal

pub returns : goal.returns
returns c = best_is
