use Rattle.node_service.specs.Runs.{IsLaterNode}
use Rattle.node_service.proofs.node_loop.RunningNode.run.Given as goal

abbrev pub invariant-loop : goal.invariant-loop
invariant-loop g l = IsLaterNode l.fn.node l.node
