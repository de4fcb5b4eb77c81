use Rattle.feed_fetch.proofs.GoodFile.{IsFetchable-header_alone}
use Rattle.feed_fetch.proofs.laws.header_is_fetchable.Goals as goal

pub returns : goal.returns
returns c = IsFetchable-header_alone
