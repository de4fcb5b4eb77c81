use Rattle.feed_model.proofs.Larger.{legal_up}
use Rattle.feed_model.proofs.laws.histories_move_up.Goals as goal

pub returns : goal.returns
returns c = legal_up
