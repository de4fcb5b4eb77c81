use Rattle.node_resolver.proofs.Held.{links_are}
use Rattle.node_resolver.proofs.laws.links_are_held.Goals as goal

pub returns : goal.returns
returns c = links_are
