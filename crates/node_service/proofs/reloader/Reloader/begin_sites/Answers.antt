use Rattle.std.proofs.Common.{sym, subst}
use Rattle.node_service.specs.Runs.{IsLaterNode}
use Rattle.node_service.proofs.reloader.Reloader.begin_sites.Goals as goal

pub returns : goal.returns
returns g c = subst (λ node. IsLaterNode c.args.node.now node) (sym c.keep_releases.ensures) c.begin_sites.ensures.later
