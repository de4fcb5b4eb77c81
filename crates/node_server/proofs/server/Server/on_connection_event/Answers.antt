use Rattle.node_machine.proofs.Later.{later_after}
use Rattle.node_server.proofs.server.Server.on_connection_event.Goals as goal

pub returns-then-is_write_closed : goal.returns-then-is_write_closed
returns-then-is_write_closed g c = later_after c.args.node.now c.note_event.new.self c.end_closed.new.node c.note_event.ensures.later c.end_closed.ensures.later

pub returns-else-is_write_closed : goal.returns-else-is_write_closed
returns-else-is_write_closed g c =
    later_after c.args.node.now c.note_event.new.self c.mark_ready.new.node c.note_event.ensures.later c.mark_ready.ensures.later
