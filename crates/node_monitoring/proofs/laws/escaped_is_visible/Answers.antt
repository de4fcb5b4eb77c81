use Rattle.node_monitoring.proofs.EscapedTexts.{visible}
use Rattle.node_monitoring.proofs.laws.escaped_is_visible.Goals as goal

pub returns : goal.returns
returns c = visible
