use Rattle.node_site.proofs.Proxying.{link_fits}
use Rattle.node_site.proofs.laws.link_fits.Goals as goal

pub returns : goal.returns
returns c = link_fits
