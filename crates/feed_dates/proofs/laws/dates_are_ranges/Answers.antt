use Rattle.feed_dates.proofs.DateLaw.{date-law}
use Rattle.feed_dates.proofs.laws.dates_are_ranges.Goals as goal

pub returns : goal.returns
returns c = date-law
