use Rattle.cmd_report.proofs.Columns.{added_up}
use Rattle.cmd_report.proofs.comparison.counts_add_up.Goals as goal

pub returns : goal.returns
returns c = added_up
