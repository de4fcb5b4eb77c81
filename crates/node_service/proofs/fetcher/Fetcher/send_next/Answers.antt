use Rattle.node_machine.proofs.Later.{later_after}
use Rattle.node_service.proofs.fetcher.Fetcher.send_next.Goals as goal

pub returns-in-Ok-false : goal.returns-in-Ok-false
returns-in-Ok-false g c = later_after c.args.node.now c.try_send_next.new.node c.end.new.node c.try_send_next.ensures c.end.ensures

pub returns-after-kind : goal.returns-after-kind
returns-after-kind g c = later_after c.args.node.now c.try_send_next.new.node c.end-in-Err.new.node c.try_send_next.ensures c.end-in-Err.ensures
