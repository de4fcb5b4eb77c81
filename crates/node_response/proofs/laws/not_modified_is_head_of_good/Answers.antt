use Rattle.node_response.proofs.HeadsRead.{not_modified_stated}
use Rattle.node_response.proofs.laws.not_modified_is_head_of_good.Goals as goal

pub returns : goal.returns
returns c = not_modified_stated
