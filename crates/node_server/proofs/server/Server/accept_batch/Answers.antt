use Rattle.node_machine.proofs.Later.{later_after}
use Rattle.node_server.proofs.server.Server.accept_batch.Goals as goal

pub returns-then-places-ne0 : goal.returns-then-places-ne0
returns-then-places-ne0 g c =
    later_after c.args.node.now c.admit_all.new.node c.make_room_if.new.node
    (later_after c.args.node.now c.make_places.new.self c.admit_all.new.node c.make_places.ensures.later c.admit_all.ensures) c.make_room_if.ensures

pub returns-else-places-ne0 : goal.returns-else-places-ne0
returns-else-places-ne0 g c =
    later_after c.args.node.now c.admit_all.new.node c.make_room_if.new.node
    (later_after c.args.node.now c.make_places.new.self c.admit_all.new.node c.make_places.ensures.later c.admit_all.ensures) c.make_room_if.ensures
