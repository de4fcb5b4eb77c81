use Rattle.node_resolver.proofs.Held.{each_is_looked_at}
use Rattle.node_resolver.proofs.laws.each_release_is_looked_at.Goals as goal

pub returns : goal.returns
returns c = each_is_looked_at
