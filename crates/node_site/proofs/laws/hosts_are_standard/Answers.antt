use Rattle.node_site.proofs.Standard.{hosts_are_standard}
use Rattle.node_site.proofs.laws.hosts_are_standard.Goals as goal

pub returns : goal.returns
returns c = hosts_are_standard
