use Rattle.std.proofs.Common.{◌≡◌, ◌+◌, drop}
use Rattle.toml.specs.View.{items_view}
use Rattle.node_site.specs.Faults.{host_flaws}
use Rattle.node_site.proofs.values.host_flaws.Given as goal

abbrev pub invariant-loop-index : goal.invariant-loop-index
invariant-loop-index l = host_flaws (l.index + 1) (items_view (drop l.index l.items.items)) ≡ host_flaws 1 (items_view l.items.items)
