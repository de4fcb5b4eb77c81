use Rattle.node_monitoring.proofs.Buckets.{cumulative}
use Rattle.node_monitoring.proofs.laws.histogram_is_cumulative.Goals as goal

pub returns : goal.returns
returns c = cumulative
