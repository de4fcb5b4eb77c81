use Rattle.std.proofs.Common.{drop}
use Rattle.feed_parts.specs.Segments.{last_place}
use Rattle.feed_parts.specs.Shown.{shown_parts}
use Rattle.feed_parts.proofs.Agreed.{IsAgreed}
use Rattle.feed_parts.proofs.overlap.conflicts.Given as goal

abbrev pub invariant-loop-part : goal.invariant-loop-part
invariant-loop-part l = IsAgreed last_place (shown_parts l.parts) l.first l.bytes (shown_parts (drop l.part-index l.part-items))
