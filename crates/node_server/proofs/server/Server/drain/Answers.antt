use Rattle.node_machine.proofs.Later.{later_after}
use Rattle.node_server.proofs.server.Server.drain.Goals as goal

pub returns : goal.returns
returns g c = later_after c.args.node.now c.run_last_turns-outcome.new.node c.close_all.new.node c.run_last_turns-outcome.ensures c.close_all.ensures
