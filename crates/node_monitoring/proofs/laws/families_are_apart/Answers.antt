use Rattle.node_monitoring.proofs.SeriesNamed.{apart}
use Rattle.node_monitoring.proofs.laws.families_are_apart.Goals as goal

pub returns : goal.returns
returns c = apart
