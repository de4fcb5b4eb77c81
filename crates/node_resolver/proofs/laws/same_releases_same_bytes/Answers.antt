use Rattle.node_resolver.proofs.SameBytes.{same_bytes}
use Rattle.node_resolver.proofs.laws.same_releases_same_bytes.Goals as goal

pub returns : goal.returns
returns c = same_bytes
