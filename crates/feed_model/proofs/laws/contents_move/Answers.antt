use Rattle.feed_model.proofs.Earlier.{contents}
use Rattle.feed_model.proofs.laws.contents_move.Goals as goal

pub returns : goal.returns
returns c = contents
