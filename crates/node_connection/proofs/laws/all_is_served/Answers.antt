use Rattle.node_connection.proofs.States.{all_served}
use Rattle.node_connection.proofs.laws.all_is_served.Goals as goal

pub returns : goal.returns
returns g c = all_served (g.R.Respond.wanted c.args._responder.now, g.R.Respond.responses c.args._responder.now)
