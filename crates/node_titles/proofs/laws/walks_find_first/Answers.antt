use Rattle.node_titles.proofs.Found.{finds_first}
use Rattle.node_titles.proofs.laws.walks_find_first.Goals as goal

pub returns : goal.returns
returns c = finds_first
