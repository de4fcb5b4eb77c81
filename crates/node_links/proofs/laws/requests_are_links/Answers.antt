use Rattle.node_links.proofs.LinksMade.{requests_are_links}
use Rattle.node_links.proofs.laws.requests_are_links.Goals as goal

pub returns : goal.returns
returns c = requests_are_links
