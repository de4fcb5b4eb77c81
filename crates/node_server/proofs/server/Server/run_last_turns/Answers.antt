use Rattle.node_machine.proofs.Later.{later_after, later_same}
use Rattle.node_server.proofs.server.Server.run_last_turns.Goals as goal

pub loop-init : goal.loop-init
loop-init g c = later_same c.args.node.now

pub loop-preserved : goal.loop-preserved
loop-preserved g c = later_after c.args.node.now c.loop.node c.run_turn.new.node c.loop.invariant c.run_turn.ensures

pub returns-in_err-run_turn : goal.returns-in_err-run_turn
returns-in_err-run_turn g c = later_after c.args.node.now c.loop.node c.run_turn.new.node c.loop.invariant c.run_turn.ensures
