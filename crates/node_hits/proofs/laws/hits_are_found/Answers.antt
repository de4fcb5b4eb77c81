use Rattle.node_hits.proofs.HitsFound.{hits_are_found}
use Rattle.node_hits.proofs.laws.hits_are_found.Goals as goal

pub returns : goal.returns
returns c = hits_are_found
