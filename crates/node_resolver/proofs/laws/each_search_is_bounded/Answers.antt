use Rattle.node_resolver.proofs.Bounded.{each_search_is_bounded}
use Rattle.node_resolver.proofs.laws.each_search_is_bounded.Goals as goal

pub returns : goal.returns
returns c = each_search_is_bounded
