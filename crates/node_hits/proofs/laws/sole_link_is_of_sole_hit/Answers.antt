use Rattle.node_hits.proofs.SoleHits.{sole_is}
use Rattle.node_hits.proofs.laws.sole_link_is_of_sole_hit.Goals as goal

pub returns : goal.returns
returns c = sole_is
