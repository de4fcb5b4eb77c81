use Rattle.feed_answer.proofs.Months.{forward}
use Rattle.feed_answer.proofs.laws.starts_move_forward.Goals as goal

pub returns : goal.returns
returns c = forward
