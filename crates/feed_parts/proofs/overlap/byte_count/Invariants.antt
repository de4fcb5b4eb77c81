use Rattle.std.proofs.Common.{◌≡◌, ◌+◌, drop}
use Rattle.feed_parts.specs.Shown.{shown_parts}
use Rattle.feed_parts.specs.Piece.{total_length}
use Rattle.feed_parts.proofs.overlap.byte_count.Given as goal

-- the bytes so far, and those of the parts that are left
abbrev pub invariant-loop-part : goal.invariant-loop-part
invariant-loop-part l = l.count + total_length (shown_parts (drop l.part-index l.parts)) ≡ total_length (shown_parts l.parts)
