use Rattle.node_machine.proofs.Later.{later_after}
use Rattle.node_service.proofs.fetcher.Fetcher.advance.Goals as goal

pub returns : goal.returns
returns g c = later_after c.args.node.now c.take_arrived-step.new.node c.follow.new.node c.take_arrived-step.ensures c.follow.ensures
