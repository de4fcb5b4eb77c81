use Rattle.node_machine.proofs.Later.{later_after}
use Rattle.node_service.proofs.fetcher.Fetcher.take.Goals as goal

pub returns-in-Close : goal.returns-in-Close
returns-in-Close g c =
    later_after c.args.node.now c.end_connection.new.self c.take_response-in-Close.new.node c.end_connection.ensures.later c.take_response-in-Close.ensures.later
