use Rattle.std.proofs.Common.{◌≡◌, ◌<◌, ◌≤◌, ◌+◌, ◌∙◌, ℕ, List, ◌∷◌, length, drop, max, None, ap, subst, arith}
use Rattle.std.proofs.lemmas.Bool.{leb-true, leb-false}
use Rattle.feed_model.specs.History.{byte_at}
use Rattle.feed_model.specs.Content.{Part, byte_in}
use Rattle.feed_parts.specs.Segments.{last_place}
use Rattle.feed_parts.specs.Shown.{shown_part, shown_parts}
use Rattle.feed_model.specs.Parts.{HasNew}
use Rattle.feed_parts.proofs.Places.{some_is, some_value, byte_at_inside, byte_at_place}
use Rattle.feed_parts.proofs.Rest.{next, finished, end_is}
use Rattle.feed_parts.proofs.Left.{IsLeft, left_at, left_start, left_starts, left_ends, left_missing, left_next, left_none, kept_more}
use Rattle.feed_parts.proofs.overlap.covers.Goals as goal

-- a place of the piece that is missing
lacks : (all : List Part) (first : ℕ) (bytes : List ℕ) (place : ℕ) → first ≤ place → place < first + length bytes → byte_in all place ≡ None → HasNew all first bytes
lacks all first bytes place le lt none = (place, some_is (byte_at first bytes place) _ (byte_at_inside first bytes place le lt), none)

pub loop-part-init : goal.loop-part-init
loop-part-init c = record {
  from = omega arith;
  left = left_start _ _ _ _ _ c.meeting-part-items.ensures.order c.meeting-part-items.ensures.begins c.meeting-part-items.ensures.same;
  kept = λ at le lt below. absurd (omega arith);
}

pub loop-part-preserved : goal.loop-part-preserved
loop-part-preserved c =
    let end = c.args.first + length c.args.bytes.now in
    let all = shown_parts c.args.parts.now in
    let part = shown_part c.part-item.result in
    let rest = shown_parts (drop (c.loop-part.part-index + 1) c.meeting-part-items.result.now) in
    let left = left_at last_place end all c.loop-part.place c.meeting-part-items.result.now c.loop-part.part-index c.part-item.result c.loop-part-test.true c.part-item.is c.loop-part.invariant.left in
    let ends = end_is c.part-item.result c.end_of.result last_place c.end_of.ensures (left_ends last_place end all c.loop-part.place part rest left) (omega arith) in
    let is = c.max-place.ensures ∙ ap (max c.loop-part.place) ends in
    record {
      from = omega (arith, c.loop-part.invariant.from);
      left = left_next last_place end all c.loop-part.place part rest left c.max-place.result (omega arith) (omega arith);
      kept = kept_more last_place end all c.loop-part.place part rest left c.args.first c.max-place.result c.loop-part.invariant.kept c.if-place-part.false is;
    }

pub returns-then-place-part : goal.returns-then-place-part
returns-then-place-part c =
    let end = c.args.first + length c.args.bytes.now in
    let all = shown_parts c.args.parts.now in
    let part = shown_part c.part-item.result in
    let rest = shown_parts (drop (c.loop-part.part-index + 1) c.meeting-part-items.result.now) in
    let left = left_at last_place end all c.loop-part.place c.meeting-part-items.result.now c.loop-part.part-index c.part-item.result c.loop-part-test.true c.part-item.is c.loop-part.invariant.left in
    let starts = left_starts last_place end all c.loop-part.place part rest left in
    let below : c.loop-part.place < end = omega (arith, starts, c.if-place-part.true) in
    record {
      covers = λ t. absurd (cc t);
      new = λ e. lacks all c.args.first c.args.bytes.now c.loop-part.place c.loop-part.invariant.from below
          (left_missing last_place end all c.loop-part.place part rest left c.loop-part.place (omega arith) below c.if-place-part.true);
    }

pub returns : goal.returns
returns c =
    let end = c.args.first + length c.args.bytes.now in
    let all = shown_parts c.args.parts.now in
    let left = subst (IsLeft last_place end all c.loop-part.place) (finished c.meeting-part-items.result.now c.loop-part.part-index c.loop-part-test.false) c.loop-part.invariant.left in
    record {
      covers = λ t place some.
          let reached = leb-true end c.loop-part.place t in
          let value = some_value (byte_at c.args.first c.args.bytes.now place) some in
          let inside = byte_at_place c.args.first c.args.bytes.now place value.0 value.1 in
          c.loop-part.invariant.kept place inside.0 (omega arith) inside.1;
      new = λ e.
          let below = leb-false end c.loop-part.place e in
          lacks all c.args.first c.args.bytes.now c.loop-part.place c.loop-part.invariant.from below (left_none last_place end all c.loop-part.place left c.loop-part.place (omega arith) below);
    }
