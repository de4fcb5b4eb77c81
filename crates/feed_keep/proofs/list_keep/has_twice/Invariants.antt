use Rattle.feed_keep.proofs.Twice.{AreApart}
use Rattle.feed_keep.proofs.list_keep.has_twice.Given as goal

-- no name appears twice so far
abbrev pub invariant-loop-at : goal.invariant-loop-at
invariant-loop-at l = AreApart l.records l.at
