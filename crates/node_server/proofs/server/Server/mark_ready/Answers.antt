use Rattle.node_table.specs.Tables.{peer_at}
use Rattle.node_server.proofs.Proxies.{addr_at, is_a_client, is_a_proxy, received_by}
use Rattle.node_server.proofs.server.Server.mark_ready.Goals as goal

pub returns-then-is_proxy-clause-own : goal.returns-then-is_proxy-clause-own
returns-then-is_proxy-clause-own g c = λ peer there not.
    absurd (not (is_a_proxy (peer_at c.args.node.now.table c.args.key) peer c.in-Some.addr c.is_proxy.result c.args.self.now.is_forwarded
    (addr_at c.table.result.now c.args.node.now.table c.args.key c.in-Some.addr c.table.ensures c.in-Some.ensures) there c.is_proxy.ensures c.if-is_proxy.true))

pub returns-then-is_proxy-clause-client : goal.returns-then-is_proxy-clause-client
returns-then-is_proxy-clause-client g c = λ peer there not within waits.
    received_by g.L.Log.records (λ _. Unit {0}) c.args.key c.args.self.now.now c.args.node.now c.free_memory.new.self c.receive_for_client.new.self
    c.args.log.now c.free_memory.new.log c.receive_for_client.new.log (c.free_memory.ensures.kept within) c.receive_for_client.ensures.received waits

pub returns-else-is_proxy-clause-client : goal.returns-else-is_proxy-clause-client
returns-else-is_proxy-clause-client g c = λ peer there not.
    absurd (not (is_a_client (peer_at c.args.node.now.table c.args.key) peer c.in-Some.addr c.is_proxy.result c.args.self.now.is_forwarded
    (addr_at c.table.result.now c.args.node.now.table c.args.key c.in-Some.addr c.table.ensures c.in-Some.ensures) there c.is_proxy.ensures c.if-is_proxy.false))
