use Rattle.feed_answer.proofs.Months.{one_month}
use Rattle.feed_answer.proofs.laws.one_month_for_day.Goals as goal

pub returns : goal.returns
returns c = one_month
