use Rattle.node_machine.proofs.Later.{later_after}
use Rattle.node_service.proofs.fetcher.Fetcher.end_without_source.Goals as goal

pub returns-in-Some-Ok : goal.returns-in-Some-Ok
returns-in-Some-Ok g c = later_after c.args.node.now c.begin_fetch.new.self c.end_by.new.node c.begin_fetch.ensures.later c.end_by.ensures
