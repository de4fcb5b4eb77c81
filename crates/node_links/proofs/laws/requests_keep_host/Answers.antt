use Rattle.node_links.proofs.Fillings.{requests_keep_host}
use Rattle.node_links.proofs.laws.requests_keep_host.Goals as goal

pub returns : goal.returns
returns c = requests_keep_host
