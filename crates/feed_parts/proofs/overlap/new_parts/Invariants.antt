use Rattle.std.proofs.Common.{◌≤◌, ◌+◌, length, drop}
use Rattle.feed_parts.specs.Segments.{last_place}
use Rattle.feed_parts.specs.Shown.{shown_parts}
use Rattle.feed_parts.proofs.Left.{IsLeft}
use Rattle.feed_parts.proofs.Fresh.{AreFresh}
use Rattle.feed_parts.proofs.overlap.new_parts.Given as goal

abbrev pub invariant-loop-part : goal.invariant-loop-part
invariant-loop-part l = record {
  from : l.first ≤ l.place;
  left : IsLeft last_place l.end (shown_parts l.parts) l.place (shown_parts (drop l.part-index l.part-items));
  so_far : AreFresh (l.first + length l.bytes) l.first l.bytes (shown_parts l.parts) l.place (shown_parts l.new.items);
}
