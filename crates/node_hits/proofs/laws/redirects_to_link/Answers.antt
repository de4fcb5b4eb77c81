use Rattle.node_hits.proofs.Redirects.{best_is}
use Rattle.node_hits.proofs.laws.redirects_to_link.Goals as goal

pub returns : goal.returns
returns c = best_is
