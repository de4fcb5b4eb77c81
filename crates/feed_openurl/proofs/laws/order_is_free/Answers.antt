use Rattle.feed_openurl.proofs.Swapped.{order_free}
use Rattle.feed_openurl.proofs.laws.order_is_free.Goals as goal

pub returns : goal.returns
returns c = order_free c.sets_ascend.ensures c.set_has_exactly_its_identifiers.ensures
