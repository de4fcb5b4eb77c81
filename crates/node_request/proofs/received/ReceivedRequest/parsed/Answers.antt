use Rattle.node_request.proofs.OneHead.{parse_had}
use Rattle.node_request.proofs.received.ReceivedRequest.parsed.Goals as goal

pub returns : goal.returns
returns c = parse_had c.args.self.now.bytes.now c.args.self.now.parsed c.args.self.now.found
