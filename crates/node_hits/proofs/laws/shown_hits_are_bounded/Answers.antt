use Rattle.node_hits.proofs.ShownBounds.{shown_hits_are_bounded}
use Rattle.node_hits.proofs.laws.shown_hits_are_bounded.Goals as goal

pub returns : goal.returns
returns c = shown_hits_are_bounded
