use Rattle.std.proofs.Common.{sym}
use Rattle.node_service.proofs.Turns.{same_response}
use Rattle.node_service.proofs.responder.into_response.Goals as goal

pub returns-clause-response : goal.returns-clause-response
returns-clause-response c =
    sym (same_response c.args.response c.into_bytes.result.items c.status.result c.body_length.result c.into_bytes.ensures c.status.ensures c.body_length.ensures)
