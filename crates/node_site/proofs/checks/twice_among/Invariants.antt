use Rattle.std.proofs.Common.{◌≡◌, ◌+◌, [], drop, map, take}
use Rattle.toml.specs.View.{items_view}
use Rattle.node_site.specs.Faults.{twice_from}
use Rattle.node_site.proofs.Twice.{host_at}
use Rattle.node_site.proofs.checks.twice_among.Given as goal

-- the fault among the rows that are left, behind those so far, is that of all
abbrev pub invariant-loop-index : goal.invariant-loop-index
invariant-loop-index l =
    twice_from l.name (map host_at (take l.index l.rows.items)) (l.index + 1) (items_view (drop l.index l.rows.items))
    ≡ twice_from l.name [] 1 (items_view l.rows.items)
