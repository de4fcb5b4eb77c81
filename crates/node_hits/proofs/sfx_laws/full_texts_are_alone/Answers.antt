use Rattle.node_hits.proofs.SfxTargets.{full_alone}
use Rattle.node_hits.proofs.sfx_laws.full_texts_are_alone.Goals as goal

pub returns : goal.returns
returns c = full_alone
