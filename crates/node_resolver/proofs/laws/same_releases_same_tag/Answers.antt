use Rattle.node_resolver.proofs.SameTags.{same_tag}
use Rattle.node_resolver.proofs.laws.same_releases_same_tag.Goals as goal

pub returns : goal.returns
returns c = same_tag
