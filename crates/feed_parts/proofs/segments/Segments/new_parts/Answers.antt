use Rattle.std.proofs.Common.{arith}
use Rattle.feed_model.specs.Parts.{Adds}
use Rattle.feed_parts.specs.Segments.{last_place}
use Rattle.feed_parts.specs.Shown.{shown_parts}
use Rattle.feed_parts.proofs.segments.Segments.new_parts.Goals as goal
use Rattle.feed_parts.proofs.segments.Segments.new_parts.Goals.{In_ok-parts}

adds : (c : In_ok-parts) → Adds last_place (shown_parts c.self.inside.parts.items) c.args.first c.args.bytes.now (shown_parts c.in_ok-parts.parts.items)
adds c = (rw c.deref.ensures.value at c.in_ok-parts.ensures.adds) last_place c.self.invariant.0 (omega (arith, c.requires.inside))

pub byte_count-count-requires : goal.byte_count-count-requires
byte_count-count-requires c = rw c.deref-2.ensures.value (adds (goal.at.byte_count-count-requires c).In_ok-parts).order

pub invariant_of-result : goal.invariant_of-result
invariant_of-result c = ((adds (goal.at.invariant_of-result c).In_ok-parts).order, rw (← c.deref-2.ensures.value) c.byte_count-count.ensures)

pub returns-clause-apart : goal.returns-clause-apart
returns-clause-apart c = rw (← c.self.view_is) (adds (goal.at.returns-clause-apart c).In_ok-parts).whole

pub returns-clause-adds : goal.returns-clause-adds
returns-clause-adds c = rw (← c.self.view_is) (rw c.deref.ensures.value at c.in_ok-parts.ensures.adds)
