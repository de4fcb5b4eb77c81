use Rattle.feed_openurl.proofs.Cited.{dropped_uncited}
use Rattle.feed_openurl.proofs.laws.dropped_is_uncited.Goals as goal

pub returns : goal.returns
returns c = dropped_uncited
