use Rattle.feed_dates.proofs.Dates.{number_fits}
use Rattle.feed_dates.proofs.laws.day_numbers_fit.Goals as goal

pub returns : goal.returns
returns c = number_fits
