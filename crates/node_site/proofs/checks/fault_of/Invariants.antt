use Rattle.std.proofs.Common.{◌≡◌}
use Rattle.toml.specs.View.{members_view}
use Rattle.node_site.specs.Faults.{fault_of}
use Rattle.node_site.proofs.checks.fault_of.Given as goal

abbrev pub invariant-members : goal.invariant-members
invariant-members l =
    (goal.iterator-members).can_next l.name-iterator × (goal.iterator-members).is_finite l.name-iterator
    × (fault_of (members_view l.name-iterator) ≡ fault_of (members_view l.fn.document.entries))
