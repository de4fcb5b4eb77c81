use Rattle.node_hits.proofs.SfxTargets.{targets_safe}
use Rattle.node_hits.proofs.sfx_laws.targets_are_links.Goals as goal

pub returns : goal.returns
returns c = targets_safe
