use Rattle.node_machine.proofs.Later.{later_after}
use Rattle.node_server.proofs.server.Server.serve.Goals as goal

pub returns-in_err-next_response-2 : goal.returns-in_err-next_response-2
returns-in_err-next_response-2 g c = later_after c.args.node.now c.next_response.new.node c.next_response-then-eq.new.node c.next_response.ensures c.next_response-then-eq.ensures

pub returns-in_ok-next_response-2 : goal.returns-in_ok-next_response-2
returns-in_ok-next_response-2 g c = later_after c.args.node.now c.next_response.new.node c.next_response-then-eq.new.node c.next_response.ensures c.next_response-then-eq.ensures
