use Rattle.node_turns.proofs.Waits.{each_served}
use Rattle.node_turns.proofs.laws.each_is_served.Goals as goal

pub returns : goal.returns
returns c = each_served
