use Rattle.cmd_scholar.proofs.Structure.{export_balanced}
use Rattle.cmd_scholar.proofs.laws.export_is_balanced.Goals as goal

pub returns : goal.returns
returns c = export_balanced
