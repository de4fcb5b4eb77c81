use Rattle.std.proofs.Common.{◌<◌, ℕ, get_or}
use Rattle.feed_parts.specs.Shown.{shown_parts}
use Rattle.feed_keep.specs.declared.record.Record.{Record}
use Rattle.feed_keep.specs.CheckOrder.{ArePartsAscending}
use Rattle.feed_keep.proofs.record_checks.are_places_ascending.Given as goal

abbrev pub invariant-loop-record : goal.invariant-loop-record
invariant-loop-record l = (k : ℕ) (d : Record) → k < l.record-index → ArePartsAscending (shown_parts (get_or l.records k d).parts.items)
