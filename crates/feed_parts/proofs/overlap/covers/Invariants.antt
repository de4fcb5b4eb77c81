use Rattle.std.proofs.Common.{◌<◌, ◌≤◌, ℕ, IsSome, drop}
use Rattle.feed_model.specs.Content.{byte_in}
use Rattle.feed_parts.specs.Segments.{last_place}
use Rattle.feed_parts.specs.Shown.{shown_parts}
use Rattle.feed_parts.proofs.Left.{IsLeft}
use Rattle.feed_parts.proofs.overlap.covers.Given as goal

-- each place of the piece so far is kept
abbrev pub invariant-loop-part : goal.invariant-loop-part
invariant-loop-part l = record {
  from : l.first ≤ l.place;
  left : IsLeft last_place l.end (shown_parts l.parts) l.place (shown_parts (drop l.part-index l.part-items));
  kept : (at : ℕ) → l.first ≤ at → at < l.place → at < l.end → IsSome (byte_in (shown_parts l.parts) at);
}
