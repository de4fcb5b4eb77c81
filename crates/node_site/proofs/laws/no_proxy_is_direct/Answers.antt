use Rattle.node_site.proofs.Proxying.{direct_is_target}
use Rattle.node_site.proofs.laws.no_proxy_is_direct.Goals as goal

pub returns : goal.returns
returns c = direct_is_target
