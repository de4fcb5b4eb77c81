use Rattle.node_response.proofs.JsonTexts.{string_read}
use Rattle.node_response.proofs.laws.json_reads_back.Goals as goal

pub returns : goal.returns
returns c = string_read
