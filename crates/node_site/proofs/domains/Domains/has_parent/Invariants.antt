use Rattle.std.proofs.Common.{◌≡◌, drop}
use Rattle.node_site.specs.Indexes.{has_parent}
use Rattle.node_site.proofs.domains.Domains.has_parent.Given as goal

abbrev pub invariant-loop-place : goal.invariant-loop-place
invariant-loop-place l = has_parent l.self.places (drop l.place l.lower) ≡ has_parent l.self.places l.lower
