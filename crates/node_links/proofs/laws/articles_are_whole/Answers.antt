use Rattle.node_links.proofs.LinksMade.{articles_are_whole}
use Rattle.node_links.proofs.laws.articles_are_whole.Goals as goal

pub returns : goal.returns
returns c = articles_are_whole
