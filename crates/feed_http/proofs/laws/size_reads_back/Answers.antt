use Rattle.feed_http.proofs.ExchangeLaw.{size_reads_back}
use Rattle.feed_http.proofs.laws.size_reads_back.Goals as goal

pub returns : goal.returns
returns c = size_reads_back
