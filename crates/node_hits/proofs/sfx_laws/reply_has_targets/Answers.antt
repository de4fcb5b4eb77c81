use Rattle.node_hits.proofs.SfxFound.{targets_found}
use Rattle.node_hits.proofs.sfx_laws.reply_has_targets.Goals as goal

pub returns : goal.returns
returns c = targets_found
