use Rattle.feed_openurl.proofs.Again.{written_understood}
use Rattle.feed_openurl.proofs.laws.written_is_understood.Goals as goal

pub returns : goal.returns
returns c = written_understood
