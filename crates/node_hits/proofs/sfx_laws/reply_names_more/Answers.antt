use Rattle.node_hits.proofs.SfxFound.{more_named}
use Rattle.node_hits.proofs.sfx_laws.reply_names_more.Goals as goal

pub returns : goal.returns
returns c = more_named
