use Rattle.feed_openurl.proofs.Again.{written_itself}
use Rattle.feed_openurl.proofs.laws.written_is_itself.Goals as goal

pub returns : goal.returns
returns c = written_itself
