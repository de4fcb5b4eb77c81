use Rattle.cmd_scholar.proofs.Structure.{export_read}
use Rattle.cmd_scholar.proofs.laws.export_reads_back.Goals as goal

pub returns : goal.returns
returns c = export_read
