use Rattle.feed_releases.proofs.ByPackage.{listed_alike}
use Rattle.feed_releases.proofs.laws.list_alike.Goals as goal

pub returns : goal.returns
returns c = listed_alike
