use Rattle.node_machine.proofs.Later.{later_after}
use Rattle.node_server.proofs.server.Server.end_closed.Goals as goal

pub returns-clause-later : goal.returns-clause-later
returns-clause-later g c = later_after c.args.node.now c.free_memory.new.self c.hang_up.new.self c.free_memory.ensures.later c.hang_up.ensures.later
