use Rattle.node_machine.proofs.Later.{later_after}
use Rattle.node_server.proofs.server.Server.watch.Goals as goal

pub returns-then-not-register : goal.returns-then-not-register
returns-then-not-register g c = later_after c.args.node.now c.register.new.self c.remove.new.self c.register.ensures.later c.remove.ensures.later
