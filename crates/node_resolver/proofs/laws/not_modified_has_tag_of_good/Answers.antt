use Rattle.node_resolver.proofs.Conditions.{tag_of_good}
use Rattle.node_resolver.proofs.laws.not_modified_has_tag_of_good.Goals as goal

pub returns : goal.returns
returns c = tag_of_good
