use Rattle.feed_metrics.proofs.LinesRead.{text_read}
use Rattle.feed_metrics.proofs.laws.lines_read_back.Goals as goal

pub returns : goal.returns
returns c = text_read
