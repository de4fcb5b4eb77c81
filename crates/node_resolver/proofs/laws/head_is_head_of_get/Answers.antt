use Rattle.node_resolver.proofs.Requests.{head_alone}
use Rattle.node_resolver.proofs.laws.head_is_head_of_get.Goals as goal

pub returns : goal.returns
returns c = head_alone
