use Rattle.feed_openurl.proofs.Contained.{answered_contained}
use Rattle.feed_openurl.proofs.laws.answered_is_contained.Goals as goal

pub returns : goal.returns
returns c = answered_contained c.set_has_exactly_its_identifiers.ensures
