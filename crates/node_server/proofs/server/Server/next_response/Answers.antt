use Rattle.node_machine.proofs.Later.{later_after}
use Rattle.node_server.proofs.server.Server.next_response.Goals as goal

pub returns-then-eq : goal.returns-then-eq
returns-then-eq g c =
    later_after c.args.node.now c.settle-outcome.new.self c.stream_to.new.node
    (later_after c.args.node.now c.serve_share-progress.new.self c.settle-outcome.new.self
    (later_after c.args.node.now c.free_memory.new.self c.serve_share-progress.new.self c.free_memory.ensures.later c.serve_share-progress.ensures.later)
    c.settle-outcome.ensures.later)
    c.stream_to.ensures

pub returns-else-eq : goal.returns-else-eq
returns-else-eq g c =
    later_after c.args.node.now c.serve_share-progress.new.self c.settle-outcome.new.self
    (later_after c.args.node.now c.free_memory.new.self c.serve_share-progress.new.self c.free_memory.ensures.later c.serve_share-progress.ensures.later)
    c.settle-outcome.ensures.later
