use Rattle.node_site.proofs.SitesKept.{no_case}
use Rattle.node_site.proofs.laws.case_does_not_count.Goals as goal

pub returns : goal.returns
returns g c = no_case
