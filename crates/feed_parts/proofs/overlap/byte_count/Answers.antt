use Rattle.std.proofs.Common.{◌+◌, ◌∙◌, drop, ap, arith}
use Rattle.feed_parts.specs.Segments.{last_place}
use Rattle.feed_parts.specs.Shown.{shown_part, shown_parts}
use Rattle.feed_parts.specs.Piece.{total_length}
use Rattle.feed_parts.proofs.Counting.{total_cons, total_within}
use Rattle.feed_parts.proofs.Rest.{next, finished}
use Rattle.feed_parts.proofs.overlap.byte_count.Goals as goal

pub loop-part-preserved : goal.loop-part-preserved
loop-part-preserved c =
    let part = c.part-item.result in
    let rest = shown_parts (drop (c.loop-part.part-index + 1) c.args.parts.now) in
    let split = ap total_length (next c.args.parts.now c.loop-part.part-index part c.loop-part-test.true c.part-item.is) ∙ total_cons (shown_part part) rest in
    let within = total_within last_place (shown_parts c.args.parts.now) c.requires in
    omega (arith, split, within, part.bytes.ok.0)

pub returns : goal.returns
returns c =
    let none = ap total_length (finished c.args.parts.now c.loop-part.part-index c.loop-part-test.false) in
    omega (arith, none)
