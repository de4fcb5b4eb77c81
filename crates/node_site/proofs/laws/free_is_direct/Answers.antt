use Rattle.node_site.proofs.Proxying.{free_is_target}
use Rattle.node_site.proofs.laws.free_is_direct.Goals as goal

pub returns : goal.returns
returns c = free_is_target
