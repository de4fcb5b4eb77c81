use Rattle.feed_dates.proofs.Dates.{day_is_read}
use Rattle.feed_dates.proofs.day.read_date.Goals as goal

pub returns : goal.returns
returns c = day_is_read _ _ c.day_of.ensures
