use Rattle.node_monitoring.proofs.PlainLines.{plain}
use Rattle.node_monitoring.proofs.laws.lines_are_plain.Goals as goal

pub returns : goal.returns
returns c = plain
