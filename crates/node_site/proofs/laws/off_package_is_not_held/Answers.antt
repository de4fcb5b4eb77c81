use Rattle.node_site.proofs.HeldDays.{off_package}
use Rattle.node_site.proofs.laws.off_package_is_not_held.Goals as goal

pub returns : goal.returns
returns c = off_package
