use Rattle.node_resolver.proofs.Hosted.{own_site}
use Rattle.node_resolver.proofs.laws.host_has_its_site.Goals as goal

pub returns : goal.returns
returns c = own_site
