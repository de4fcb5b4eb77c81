use Rattle.node_monitoring.proofs.SeriesNamed.{requests_named}
use Rattle.node_monitoring.proofs.laws.requests_are_named.Goals as goal

pub returns : goal.returns
returns c = requests_named
