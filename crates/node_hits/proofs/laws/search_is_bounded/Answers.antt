use Rattle.node_hits.proofs.SearchBounds.{search_is_bounded}
use Rattle.node_hits.proofs.laws.search_is_bounded.Goals as goal

pub returns : goal.returns
returns c = search_is_bounded
