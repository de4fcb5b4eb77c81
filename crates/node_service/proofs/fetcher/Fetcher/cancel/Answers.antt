use Rattle.node_machine.proofs.Later.{later_after}
use Rattle.node_service.proofs.fetcher.Fetcher.cancel.Goals as goal

pub returns-then-is_some : goal.returns-then-is_some
returns-then-is_some g c = later_after c.args.node.now c.begin.new.node c.end.new.node c.begin.ensures c.end.ensures
