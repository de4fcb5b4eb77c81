use Rattle.node_machine.proofs.Later.{right_after}
use Rattle.node_server.proofs.server.Server.turn.Goals as goal

pub returns-clause-right : goal.returns-clause-right
returns-clause-right g c = right_after _ _ c.run_turn-outcome.ensures c.node_is_right.ensures
