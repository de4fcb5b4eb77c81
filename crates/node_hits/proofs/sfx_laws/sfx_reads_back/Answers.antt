use Rattle.node_hits.proofs.SfxStructure.{reply_read}
use Rattle.node_hits.proofs.sfx_laws.sfx_reads_back.Goals as goal

pub returns : goal.returns
returns c = reply_read
