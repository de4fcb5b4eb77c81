use Rattle.feed_http.proofs.ExchangeLaw.{part_reads_back}
use Rattle.feed_http.proofs.laws.part_reads_back.Goals as goal

pub returns : goal.returns
returns c = part_reads_back
