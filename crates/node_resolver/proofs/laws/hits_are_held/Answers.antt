use Rattle.node_resolver.proofs.Held.{hits_are}
use Rattle.node_resolver.proofs.laws.hits_are_held.Goals as goal

pub returns : goal.returns
returns c = hits_are
