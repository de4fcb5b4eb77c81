use Rattle.node_hits.proofs.Articles.{articles_come_first}
use Rattle.node_hits.proofs.laws.articles_come_first.Goals as goal

pub returns : goal.returns
returns c = articles_come_first
