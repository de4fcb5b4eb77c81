use Rattle.node_monitoring.proofs.MetricsRead.{metrics_read}
use Rattle.node_monitoring.proofs.laws.metrics_read_back.Goals as goal

pub returns : goal.returns
returns c = metrics_read
