use Rattle.std.proofs.Common.{◌≡◌}
use Rattle.node_sites.proofs.node_sites.prepare_all.Given as goal

abbrev pub invariant-loop-named : goal.invariant-loop-named
invariant-loop-named l = l.sites ≡ l.fn.sites
