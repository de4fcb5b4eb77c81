use Rattle.feed_openurl.proofs.Unread.{people_dropped}
use Rattle.feed_openurl.proofs.laws.people_are_dropped.Goals as goal

pub returns : goal.returns
returns c = people_dropped
