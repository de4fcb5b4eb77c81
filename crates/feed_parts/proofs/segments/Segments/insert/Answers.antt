use Rattle.std.proofs.Common.{◌∙◌, ap, arith}
use Rattle.feed_parts.specs.Piece.{total_length}
use Rattle.feed_parts.specs.Segments.{AreSegments, last_place}
use Rattle.feed_parts.specs.Shown.{shown_parts}
use Rattle.feed_parts.proofs.Counting.{total_merged, total_within}
use Rattle.feed_parts.proofs.segments.Segments.insert.Goals as goal

pub invariant_of-self : goal.invariant_of-self
invariant_of-self c =
    let kept = shown_parts c.self.inside.parts.items in
    let new = shown_parts c.new.inside.parts.items in
    let order : AreSegments (shown_parts c.merge.new.parts.items) = rw c.merge.ensures (rw (← c.self.view_is, ← c.new.view_is) at c.requires.apart) in
    let total = ap total_length c.merge.ensures ∙ total_merged kept new in
    let within = total_within last_place (shown_parts c.merge.new.parts.items) order in
    (order, omega (arith, total, within, c.saturating_add-self-inside.ensures, c.self.invariant.1, c.new.invariant.1))
