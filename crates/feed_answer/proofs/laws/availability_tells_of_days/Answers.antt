use Rattle.feed_answer.proofs.Opened.{tells_of_days}
use Rattle.feed_answer.proofs.laws.availability_tells_of_days.Goals as goal

pub returns : goal.returns
returns c = tells_of_days
