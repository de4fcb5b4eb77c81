use Rattle.feed_answer.proofs.Ascending.{set_ascends}
use Rattle.feed_answer.proofs.laws.sets_ascend.Goals as goal

pub returns : goal.returns
returns c = set_ascends
