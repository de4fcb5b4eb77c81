use Rattle.std.proofs.Common.{◌≡◌, ◌+◌, drop}
use Rattle.toml.specs.View.{items_view}
use Rattle.node_site.specs.Faults.{rows_fault}
use Rattle.node_site.proofs.checks.rows_fault.Given as goal

abbrev pub invariant-loop-index : goal.invariant-loop-index
invariant-loop-index l =
    rows_fault l.name l.section (l.index + 1) (items_view (drop l.index l.rows.items)) ≡ rows_fault l.name l.section 1 (items_view l.rows.items)
