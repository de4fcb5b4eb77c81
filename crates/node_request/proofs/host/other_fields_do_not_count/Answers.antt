use Rattle.node_request.proofs.HostParts.{other_fields}
use Rattle.node_request.proofs.host.other_fields_do_not_count.Goals as goal

pub returns : goal.returns
returns c = other_fields
