use Rattle.feed_openurl.proofs.Bounds.{short_written}
use Rattle.feed_openurl.proofs.laws.written_is_short.Goals as goal

pub returns : goal.returns
returns c = short_written
