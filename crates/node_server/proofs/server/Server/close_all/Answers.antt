use Rattle.node_machine.proofs.Later.{later_after, later_same}
use Rattle.node_server.proofs.server.Server.close_all.Goals as goal

pub loop-init : goal.loop-init
loop-init g c = later_same c.args.node.now

pub loop-preserved : goal.loop-preserved
loop-preserved g c = later_after c.args.node.now c.loop.node c.make_room.new.self c.loop.invariant c.make_room.ensures.later
