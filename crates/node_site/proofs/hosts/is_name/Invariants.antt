use Rattle.std.proofs.Common.{◌≡◌, drop}
use Rattle.node_site.specs.Hosts.{begins_with_letter, ends_named}
use Rattle.node_site.proofs.hosts.is_name.Given as goal

abbrev pub invariant-loop-place : goal.invariant-loop-place
invariant-loop-place l = ends_named (begins_with_letter l.host) l.host ≡ ends_named l.is_named (drop l.place l.host)
