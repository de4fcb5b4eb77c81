use Rattle.node_monitoring.proofs.SeriesNamed.{gauges_named}
use Rattle.node_monitoring.proofs.laws.gauges_are_named.Goals as goal

pub returns : goal.returns
returns c = gauges_named
