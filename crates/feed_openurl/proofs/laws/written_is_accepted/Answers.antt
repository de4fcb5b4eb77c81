use Rattle.feed_openurl.proofs.Written.{written_accepted}
use Rattle.feed_openurl.proofs.laws.written_is_accepted.Goals as goal

pub returns : goal.returns
returns c = written_accepted
