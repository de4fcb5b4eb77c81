use Rattle.node_response.proofs.HeadsRead.{stream_of}
use Rattle.node_response.proofs.fetch_responses.progress_response.Goals as goal

pub returns-clause-message : goal.returns-clause-message
returns-clause-message c = stream_of c.in_ok-progress_head.field-0.items c.in_ok-progress_head.ensures
