use Rattle.node_hits.proofs.SfxTargets.{targets_in_order}
use Rattle.node_hits.proofs.sfx_laws.targets_are_hits_and_links.Goals as goal

pub returns : goal.returns
returns c = targets_in_order
