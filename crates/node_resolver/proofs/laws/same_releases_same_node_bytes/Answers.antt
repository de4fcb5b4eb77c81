use Rattle.node_resolver.proofs.Hosted.{same_node_bytes}
use Rattle.node_resolver.proofs.laws.same_releases_same_node_bytes.Goals as goal

pub returns : goal.returns
returns c = same_node_bytes
