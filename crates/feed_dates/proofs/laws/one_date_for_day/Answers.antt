use Rattle.feed_dates.proofs.DateTexts.{date_is_text}
use Rattle.feed_dates.proofs.laws.one_date_for_day.Goals as goal

pub returns : goal.returns
returns c = date_is_text
