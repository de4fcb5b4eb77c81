use Rattle.std.proofs.Common.{inl}
use Rattle.node_server.proofs.Proxies.{proxy_by}
use Rattle.node_server.proofs.server.Server.is_proxy.Goals as goal

pub returns-then-not-self : goal.returns-then-not-self
returns-then-not-self c = inl c.if-not-self.true

pub returns : goal.returns
returns c = proxy_by c.is_local.result c.args.self.now.is_forwarded c.args.addr c.if-not-self.false c.is_local.ensures
