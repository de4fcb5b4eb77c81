use Rattle.node_machine.proofs.Later.{later_after, later_same}
use Rattle.node_server.proofs.server.Server.accept_waiting.Goals as goal

pub loop-init : goal.loop-init
loop-init g c = later_same c.args.node.now

pub loop-preserved : goal.loop-preserved
loop-preserved g c = later_after c.args.node.now c.loop.node c.accept_batch.new.node c.loop.invariant c.accept_batch.ensures

pub returns-then-not-accept_batch : goal.returns-then-not-accept_batch
returns-then-not-accept_batch g c = later_after c.args.node.now c.loop.node c.accept_batch.new.node c.loop.invariant c.accept_batch.ensures
