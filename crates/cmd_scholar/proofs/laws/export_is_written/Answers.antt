use Rattle.cmd_scholar.proofs.Written.{export_written}
use Rattle.cmd_scholar.proofs.laws.export_is_written.Goals as goal

pub returns : goal.returns
returns c = export_written
