use Rattle.std.proofs.Common.{◌≡◌, true, take}
use Rattle.std.specs.List.{list_all}
use Rattle.node_service.specs.Wanted.{has_package}
use Rattle.node_service.proofs.wanted.have_each.Given as goal

abbrev pub invariant-loop-awaited : goal.invariant-loop-awaited
invariant-loop-awaited l = list_all (has_package l.actives) (take l.awaited-index l.wanted) ≡ true
