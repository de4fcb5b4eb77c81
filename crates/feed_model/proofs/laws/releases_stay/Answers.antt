use Rattle.feed_model.proofs.Earlier.{release_same}
use Rattle.feed_model.proofs.laws.releases_stay.Goals as goal

pub returns : goal.returns
returns c = release_same
