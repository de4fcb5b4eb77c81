use Rattle.feed_metrics.proofs.LabelsRead.{label_read}
use Rattle.feed_metrics.proofs.laws.label_reads_back.Goals as goal

pub returns : goal.returns
returns c = label_read
