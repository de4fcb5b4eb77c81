use Rattle.feed_model.proofs.Earlier.{report_same}
use Rattle.feed_model.proofs.laws.reports_stay.Goals as goal

pub returns : goal.returns
returns c = report_same
