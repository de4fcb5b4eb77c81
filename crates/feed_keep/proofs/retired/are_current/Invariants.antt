use Rattle.feed_keep.proofs.Later.{AreKept}
use Rattle.feed_keep.proofs.retired.are_current.Given as goal

-- no record so far is retired
abbrev pub invariant-loop-record : goal.invariant-loop-record
invariant-loop-record l = AreKept l.records l.record-index
