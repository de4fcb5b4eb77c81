use Rattle.node_hits.proofs.Tops.{preferred}
use Rattle.node_hits.proofs.laws.ranks_in_order.Goals as goal

pub returns : goal.returns
returns c = preferred
