use Rattle.feed_answer.proofs.Opened.{opened_is}
use Rattle.feed_answer.proofs.laws.open_days_are_open.Goals as goal

pub returns : goal.returns
returns c = opened_is
