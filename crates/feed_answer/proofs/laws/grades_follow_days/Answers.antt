use Rattle.feed_answer.proofs.Covered.{graded_by_days}
use Rattle.feed_answer.proofs.laws.grades_follow_days.Goals as goal

pub returns : goal.returns
returns c = graded_by_days
