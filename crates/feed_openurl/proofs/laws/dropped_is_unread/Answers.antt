use Rattle.feed_openurl.proofs.Unread.{dropped_unread}
use Rattle.feed_openurl.proofs.laws.dropped_is_unread.Goals as goal

pub returns : goal.returns
returns c = dropped_unread
