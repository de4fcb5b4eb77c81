use Rattle.node_hits.proofs.ShareBounds.{each_has_share}
use Rattle.node_hits.proofs.laws.each_has_share.Goals as goal

pub returns : goal.returns
returns c = each_has_share
