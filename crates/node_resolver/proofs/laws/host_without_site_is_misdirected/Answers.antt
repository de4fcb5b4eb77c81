use Rattle.node_resolver.proofs.Hosted.{no_site}
use Rattle.node_resolver.proofs.laws.host_without_site_is_misdirected.Goals as goal

pub returns : goal.returns
returns c = no_site
