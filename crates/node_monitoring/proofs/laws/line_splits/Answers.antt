use Rattle.node_monitoring.proofs.LineParts.{line_parts}
use Rattle.node_monitoring.proofs.laws.line_splits.Goals as goal

pub returns : goal.returns
returns c = line_parts
