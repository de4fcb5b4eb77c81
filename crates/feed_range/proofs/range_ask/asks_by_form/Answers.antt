use Rattle.feed_range.proofs.Forms.{asks_by_form}
use Rattle.feed_range.proofs.range_ask.asks_by_form.Goals as goal

pub returns : goal.returns
returns c = asks_by_form
