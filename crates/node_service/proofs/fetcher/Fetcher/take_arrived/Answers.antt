use Rattle.node_machine.proofs.Later.{later_after, later_as}
use Rattle.node_service.proofs.fetcher.Fetcher.take_arrived.Goals.{in-Again, in_default-take}
use Rattle.node_service.proofs.fetcher.Fetcher.take_arrived.Goals as goal

pub returns : goal.returns
returns g c =
    let first = later_after c.args.node.now c.receive.new.node c.take.new.node c.receive.ensures c.take.ensures in
    elim c.match-take.branch [
      | in-Again w ↦ later_after c.args.node.now w.take-step.new.node c.match-take.node
          (later_after c.args.node.now c.take.new.node w.take-step.new.node first w.take-step.ensures) (later_as w.take-step.new.node c.match-take.node w.node-is)
      | in_default-take w ↦ later_after c.args.node.now c.take.new.node c.match-take.node first (later_as c.take.new.node c.match-take.node w.node-is)
    ]
