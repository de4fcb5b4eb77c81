use Rattle.node_resolver.proofs.Hosted.{other_sites}
use Rattle.node_resolver.proofs.laws.other_sites_do_not_count.Goals as goal

pub returns : goal.returns
returns c = other_sites
