use Rattle.std.proofs.Common.{◌≡◌, take}
use Rattle.feed_keep.specs.Shown.{shown}
use Rattle.feed_keep.specs.Arranged.{ordered}
use Rattle.feed_keep.proofs.list_keep.copy_records.Given as goal

-- the records that were passed are copied, each with its parts in order
abbrev pub invariant-loop-record : goal.invariant-loop-record
invariant-loop-record l = shown l.copy.items ≡ ordered (shown (take l.record-index l.records))
