use Rattle.std.proofs.Common.{rules}
use Rattle.feed_metrics.proofs.Numbers.{bound_plain}
use Rattle.node_monitoring.proofs.metrics_values.NodeSourcesSources.put_label_value.Goals as goal

pub returns-in-Bound : goal.returns-in-Bound
returns-in-Bound c = rw (c.in-Bound.is, ← bound_plain) (search rules)
