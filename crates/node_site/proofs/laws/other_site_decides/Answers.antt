use Rattle.node_site.proofs.SitesKept.{other_decides}
use Rattle.node_site.proofs.laws.other_site_decides.Goals as goal

pub returns : goal.returns
returns g c = other_decides
