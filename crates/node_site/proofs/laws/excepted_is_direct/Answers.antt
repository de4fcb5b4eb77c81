use Rattle.node_site.proofs.Proxying.{excepted_is_target}
use Rattle.node_site.proofs.laws.excepted_is_direct.Goals as goal

pub returns : goal.returns
returns c = excepted_is_target
