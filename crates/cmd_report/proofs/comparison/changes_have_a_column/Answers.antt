use Rattle.cmd_report.proofs.Columns.{columns_decide}
use Rattle.cmd_report.proofs.comparison.changes_have_a_column.Goals as goal

pub returns : goal.returns
returns c = columns_decide
