use Rattle.node_resolver.proofs.Requests.{redirects_sole_hit}
use Rattle.node_resolver.proofs.laws.redirects_sole_hit.Goals as goal

pub returns : goal.returns
returns c = redirects_sole_hit
