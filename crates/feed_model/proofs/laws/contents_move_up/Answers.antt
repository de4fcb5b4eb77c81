use Rattle.feed_model.proofs.Larger.{moved_up}
use Rattle.feed_model.proofs.laws.contents_move_up.Goals as goal

pub returns : goal.returns
returns c = moved_up
