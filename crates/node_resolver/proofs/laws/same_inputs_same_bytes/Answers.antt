use Rattle.node_resolver.proofs.SameTags.{same_inputs}
use Rattle.node_resolver.proofs.laws.same_inputs_same_bytes.Goals as goal

pub returns : goal.returns
returns c = same_inputs
