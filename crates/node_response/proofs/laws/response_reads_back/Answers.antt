use Rattle.node_response.proofs.HeadsRead.{head_of, sent_as}
use Rattle.node_response.proofs.laws.response_reads_back.Goals as goal

pub returns : goal.returns
returns c = λ keeps reply sendable. (head_of keeps reply, sent_as keeps reply sendable)
