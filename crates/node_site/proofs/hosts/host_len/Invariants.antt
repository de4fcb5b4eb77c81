use Rattle.std.proofs.Common.{◌≡◌, ◌+◌, false, drop}
use Rattle.node_site.specs.Hosts.{host_len}
use Rattle.node_site.proofs.hosts.host_len.Given as goal

abbrev pub invariant-loop-place : goal.invariant-loop-place
invariant-loop-place l = host_len false l.authority ≡ l.place + host_len l.inside (drop l.place l.authority)
