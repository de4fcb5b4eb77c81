use Rattle.node_machine.proofs.Later.{later_after}
use Rattle.node_service.proofs.fetcher.Fetcher.begin.Goals as goal

pub returns-in_default-expected : goal.returns-in_default-expected
returns-in_default-expected g c = later_after c.args.node.now c.begin_fetch.new.self c.end_by.new.node c.begin_fetch.ensures.later c.end_by.ensures

pub returns-in-Some-expected : goal.returns-in-Some-expected
returns-in-Some-expected g c = later_after c.args.node.now c.begin_fetch.new.self c.send_next.new.node c.begin_fetch.ensures.later c.send_next.ensures
