use Rattle.node_site.proofs.SitesKept.{own_decides}
use Rattle.node_site.proofs.laws.own_site_decides.Goals as goal

pub returns : goal.returns
returns g c = own_decides
