use Rattle.std.proofs.Common.{◌≡◌, ◌<◌, ℕ, false, get_or}
use Rattle.feed_names.specs.ReleaseName.{name_eq}
use Rattle.feed_keep.specs.declared.record.Record.{Record}
use Rattle.feed_keep.proofs.list_keep.find_record.Given as goal

abbrev pub invariant-loop-at : goal.invariant-loop-at
invariant-loop-at l = (k : ℕ) (d : Record) → k < l.at → name_eq (get_or l.records k d).name l.name ≡ false
