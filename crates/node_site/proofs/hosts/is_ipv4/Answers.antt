use Rattle.std.proofs.Common.{ap, sym}
use Rattle.std.specs.Prelude.{is_some}
use Rattle.node_site.proofs.Addresses.{whole_ipv4, no_ipv4}
use Rattle.node_site.proofs.hosts.is_ipv4.Goals as goal

pub returns-in-Ok : goal.returns-in-Ok
returns-in-Ok c = sym (ap is_some (whole_ipv4 _ _ c.in-Ok.ensures))

pub returns-in-Err : goal.returns-in-Err
returns-in-Err c = sym (ap is_some (no_ipv4 _ (λ octets. c.in-Err.ensures (record { octets = octets }))))
