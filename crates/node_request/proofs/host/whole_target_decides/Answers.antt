use Rattle.node_request.proofs.HostParts.{whole_target}
use Rattle.node_request.proofs.host.whole_target_decides.Goals as goal

pub returns : goal.returns
returns c = whole_target
