use Rattle.node_machine.proofs.Later.{later_after}
use Rattle.node_server.proofs.server.Server.admit.Goals as goal

pub returns : goal.returns
returns g c =
    later_after c.args.node.now c.accept.new.self c.mark_ready.new.node c.accept.ensures.later
    (later_after c.accept.new.self c.watch.new.node c.mark_ready.new.node c.watch.ensures c.mark_ready.ensures.later)
