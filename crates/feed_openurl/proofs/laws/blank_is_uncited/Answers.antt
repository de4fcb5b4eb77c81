use Rattle.feed_openurl.proofs.Cited.{blank_uncited}
use Rattle.feed_openurl.proofs.laws.blank_is_uncited.Goals as goal

pub returns : goal.returns
returns c = blank_uncited
