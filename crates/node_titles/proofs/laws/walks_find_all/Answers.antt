use Rattle.node_titles.proofs.Found.{finds_all}
use Rattle.node_titles.proofs.laws.walks_find_all.Goals as goal

pub returns : goal.returns
returns c = finds_all
