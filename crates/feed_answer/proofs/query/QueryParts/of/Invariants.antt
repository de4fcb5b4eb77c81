use Rattle.std.proofs.Common.{take}
use Rattle.feed_answer.specs.QueryParts.{AreRead}
use Rattle.feed_answer.proofs.query.QueryParts.of.Given as goal

-- the pairs so far are read
abbrev pub invariant-loop-pair : goal.invariant-loop-pair
invariant-loop-pair l = AreRead (take l.pair-index l.pairs) l.parts
