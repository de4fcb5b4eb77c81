use Rattle.node_hits.proofs.Tallies.{tally_is}
use Rattle.node_hits.proofs.laws.tally_tells_of_hits.Goals as goal

pub returns : goal.returns
returns c = tally_is
