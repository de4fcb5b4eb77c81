use Rattle.feed_dates.proofs.Dates.{one_day}
use Rattle.feed_dates.proofs.laws.one_day_for_date.Goals as goal

pub returns : goal.returns
returns c = one_day
