use Rattle.std.proofs.Common.{sym, subst}
use Rattle.node_service.specs.Runs.{IsLaterNode}
use Rattle.node_service.proofs.node_loop.RunningNode.begin_day.Goals as goal

pub returns-then-day-self : goal.returns-then-day-self
returns-then-day-self g c = subst (λ node. IsLaterNode c.args.node.now node) (sym c.keep_releases.ensures) c.begin_day.ensures.later
