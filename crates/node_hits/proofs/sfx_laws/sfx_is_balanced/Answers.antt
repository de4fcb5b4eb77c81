use Rattle.node_hits.proofs.SfxStructure.{reply_balanced}
use Rattle.node_hits.proofs.sfx_laws.sfx_is_balanced.Goals as goal

pub returns : goal.returns
returns c = reply_balanced
