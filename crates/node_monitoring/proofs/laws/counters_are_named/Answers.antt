use Rattle.node_monitoring.proofs.SeriesNamed.{counters_named}
use Rattle.node_monitoring.proofs.laws.counters_are_named.Goals as goal

pub returns : goal.returns
returns c = counters_named
