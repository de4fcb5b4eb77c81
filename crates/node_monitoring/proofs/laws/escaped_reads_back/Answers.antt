use Rattle.node_monitoring.proofs.EscapedTexts.{reads_back}
use Rattle.node_monitoring.proofs.laws.escaped_reads_back.Goals as goal

pub returns : goal.returns
returns c = reads_back
