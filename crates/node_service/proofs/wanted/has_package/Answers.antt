use Rattle.std.proofs.Common.{◌∙◌}
use Rattle.node_service.proofs.WantedPackages.{found_is}
use Rattle.node_service.proofs.wanted.has_package.Goals as goal

pub returns : goal.returns
returns c = c.is_some.ensures ∙ found_is c.args.actives.now c.args.«package».now c.find_package.result c.find_package.ensures.within c.find_package.ensures.found c.find_package.ensures.none
