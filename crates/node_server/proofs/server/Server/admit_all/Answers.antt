use Rattle.node_machine.proofs.Later.{later_after, later_same}
use Rattle.node_server.proofs.server.Server.admit_all.Goals as goal

pub loop-socket-init : goal.loop-socket-init
loop-socket-init g c = later_same c.args.node.now

pub loop-socket-preserved : goal.loop-socket-preserved
loop-socket-preserved g c = later_after c.args.node.now c.loop-socket.node c.admit.new.node c.loop-socket.invariant c.admit.ensures
