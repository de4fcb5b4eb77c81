use Rattle.std.proofs.Common.{◌≡◌}
use Rattle.toml.specs.View.{members_view}
use Rattle.node_site.specs.Faults.{fields_fault, place_of}
use Rattle.node_site.proofs.checks.fields_fault.Given as goal

abbrev pub invariant-members : goal.invariant-members
invariant-members l =
    (goal.iterator-members).can_next l.key-iterator × (goal.iterator-members).is_finite l.key-iterator
    × (fields_fault (place_of l.name l.row) l.section (members_view l.key-iterator)
    ≡ fields_fault (place_of l.name l.row) l.section (members_view l.fn.table.entries))
