use Rattle.node_monitoring.proofs.SeriesNamed.{times_named}
use Rattle.node_monitoring.proofs.laws.times_are_named.Goals as goal

pub returns : goal.returns
returns c = times_named
