use Rattle.node_resolver.proofs.Requests.{goes_to_best}
use Rattle.node_resolver.proofs.laws.goes_to_best.Goals as goal

pub returns : goal.returns
returns c = goes_to_best
