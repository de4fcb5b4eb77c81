use Rattle.node_response.proofs.Visible.{tag_visible}
use Rattle.node_response.proofs.laws.tag_is_visible.Goals as goal

pub returns : goal.returns
returns c = tag_visible
