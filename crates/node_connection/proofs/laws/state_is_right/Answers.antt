use Rattle.node_connection.proofs.States.{state_right}
use Rattle.node_connection.proofs.laws.state_is_right.Goals as goal

pub returns : goal.returns
returns c = state_right
