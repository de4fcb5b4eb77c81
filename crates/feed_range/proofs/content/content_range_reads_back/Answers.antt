use Rattle.feed_range.proofs.Laws.{content_range-text}
use Rattle.feed_range.proofs.content.content_range_reads_back.Goals as goal

pub returns : goal.returns
returns c = content_range-text
