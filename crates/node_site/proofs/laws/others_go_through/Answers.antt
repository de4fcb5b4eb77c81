use Rattle.node_site.proofs.Proxying.{others_go}
use Rattle.node_site.proofs.laws.others_go_through.Goals as goal

pub returns : goal.returns
returns c = others_go
