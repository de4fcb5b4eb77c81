use Rattle.std.proofs.Common.{ap}
use Rattle.node_response.specs.Tags.{entity_tag}
use Rattle.node_response.proofs.laws.same_inputs_same_tag.Goals as goal

pub returns : goal.returns
returns c = λ one other same. ap entity_tag same
