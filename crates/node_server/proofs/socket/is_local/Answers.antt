use Rattle.std.proofs.Common.{subst}
use Rattle.node_turns.specs.Addresses.{IsCanonical}
use Rattle.node_server.proofs.Proxies.{local_by}
use Rattle.node_server.proofs.socket.is_local.Goals as goal

pub returns : goal.returns
returns c =
    local_by c.is_loopback.result c.args.addr c.to_canonical.result
    (subst (λ a. IsCanonical a c.to_canonical.result) c.ip.ensures c.to_canonical.ensures) c.is_loopback.ensures
