use Rattle.std.proofs.Common.{drop}
use Rattle.feed_parts.specs.Shown.{shown_parts}
use Rattle.feed_parts.proofs.Filled.{IsFilled}
use Rattle.feed_parts.proofs.segments.next_gap.Given as goal

abbrev pub invariant-loop-part : goal.invariant-loop-part
invariant-loop-part l = IsFilled l.size (shown_parts l.parts) l.first (shown_parts (drop l.part-index l.parts))
