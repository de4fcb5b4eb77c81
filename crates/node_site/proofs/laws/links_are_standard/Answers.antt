use Rattle.node_site.proofs.Standard.{links_are_standard}
use Rattle.node_site.proofs.laws.links_are_standard.Goals as goal

pub returns : goal.returns
returns c = links_are_standard
