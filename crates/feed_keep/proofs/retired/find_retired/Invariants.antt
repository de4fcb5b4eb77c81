use Rattle.std.proofs.Common.{◌≡◌, map, take}
use Rattle.feed_keep.specs.Retired.{is_retired}
use Rattle.feed_keep.specs.Shown.{shown}
use Rattle.feed_keep.proofs.retired.find_retired.Given as goal

-- the answers so far are those of the records so far
abbrev pub invariant-loop-record : goal.invariant-loop-record
invariant-loop-record l = l.retired.items ≡ map (λ r. is_retired (shown l.records) r.name) (take l.record-index l.records)
