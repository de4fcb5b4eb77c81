use Rattle.node_machine.proofs.Later.{later_after, later_same}
use Rattle.node_server.proofs.server.Server.serve_ready.Goals as goal

pub loop-init : goal.loop-init
loop-init g c = later_same c.args.node.now

pub loop-preserved : goal.loop-preserved
loop-preserved g c =
    later_after c.args.node.now c.next_ready.new.self c.serve.new.node
    (later_after c.args.node.now c.loop.node c.next_ready.new.self c.loop.invariant c.next_ready.ensures.later) c.serve.ensures

pub returns-in_err-serve : goal.returns-in_err-serve
returns-in_err-serve g c =
    later_after c.args.node.now c.next_ready.new.self c.serve.new.node
    (later_after c.args.node.now c.loop.node c.next_ready.new.self c.loop.invariant c.next_ready.ensures.later) c.serve.ensures

pub returns-in_default : goal.returns-in_default
returns-in_default g c = later_after c.args.node.now c.loop.node c.next_ready.new.self c.loop.invariant c.next_ready.ensures.later
