use Rattle.node_hits.proofs.LooksPlaced.{whole_is_of_answer}
use Rattle.node_hits.proofs.laws.whole_is_of_answer.Goals as goal

pub returns : goal.returns
returns c = whole_is_of_answer
