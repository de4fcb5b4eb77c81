use Rattle.node_machine.proofs.Later.{later_after, later_same}
use Rattle.node_service.proofs.node_loop.RunningNode.run.Goals as goal

pub loop-init : goal.loop-init
loop-init g c = later_same c.args.node.now

pub loop-preserved : goal.loop-preserved
loop-preserved g c = later_after c.args.node.now c.loop.node c.turn.new.node c.loop.invariant c.turn.ensures

pub returns-in-Some : goal.returns-in-Some
returns-in-Some g c = later_after c.args.node.now c.loop.node c.turn.new.node c.loop.invariant c.turn.ensures
