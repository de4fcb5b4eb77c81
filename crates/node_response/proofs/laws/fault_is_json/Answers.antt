use Rattle.node_response.proofs.JsonTexts.{fault_read}
use Rattle.node_response.proofs.laws.fault_is_json.Goals as goal

pub returns : goal.returns
returns c = fault_read
