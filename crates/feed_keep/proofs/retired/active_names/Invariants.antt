use Rattle.std.proofs.Common.{◌≡◌, take}
use Rattle.std.specs.List.{list_any}
use Rattle.feed_names.specs.ReleaseName.{Name}
use Rattle.feed_model.specs.Change.{is_earlier}
use Rattle.feed_keep.specs.Retired.{retires}
use Rattle.feed_keep.specs.Shown.{shown_record}
use Rattle.feed_keep.proofs.retired.active_names.Given as goal

-- the names so far are those of the active records so far
abbrev pub invariant-loop-record : goal.invariant-loop-record
invariant-loop-record l = (n : Name)
    → list_any (λ m. is_earlier n m.now) l.actives.items ≡ list_any (λ r. retires n (shown_record r)) (take l.record-index l.records)
