use Rattle.node_turns.proofs.Goes.{each_reached}
use Rattle.node_turns.proofs.laws.each_address_is_served.Goals as goal

pub returns : goal.returns
returns c = each_reached
