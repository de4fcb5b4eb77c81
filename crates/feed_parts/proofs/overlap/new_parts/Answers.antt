use Rattle.std.proofs.Common.{◌≡◌, ◌+◌, ◌∙◌, ◌++◌, ◌∷◌, length, drop, max, ap, subst, arith}
use Rattle.std.proofs.lemmas.List.{length-map}
use Rattle.feed_model.specs.Content.{end_of}
use Rattle.feed_parts.specs.Segments.{last_place}
use Rattle.feed_parts.specs.Shown.{shown_part, shown_parts}
use Rattle.feed_parts.specs.Cut.{cuts}
use Rattle.feed_parts.proofs.Rest.{next, finished, end_is}
use Rattle.feed_parts.proofs.Left.{IsLeft, left_at, left_start, left_starts, left_ends, left_missing, left_kept, left_next, left_none}
use Rattle.feed_parts.proofs.Fresh.{fresh_start, fresh_more, fresh_past, fresh_wider, fresh_adds, fresh_some}
use Rattle.feed_parts.proofs.overlap.new_parts.Goals as goal

pub loop-part-init : goal.loop-part-init
loop-part-init c = record {
  from = omega arith;
  left = left_start _ _ _ _ _ c.meeting-part-items.ensures.order c.meeting-part-items.ensures.begins c.meeting-part-items.ensures.same;
  so_far = rw c.new-new.ensures.items (fresh_start (c.args.first + length c.args.bytes.now) c.args.first c.args.bytes.now (shown_parts c.args.parts.now));
}

pub push_cut-requires-clause-high : goal.push_cut-requires-clause-high
push_cut-requires-clause-high c =
    let end = c.args.first + length c.args.bytes.now in
    let all = shown_parts c.args.parts.now in
    let rest = shown_parts (drop (c.loop-part.part-index + 1) c.meeting-part-items.result.now) in
    let left = left_at last_place end all c.loop-part.place c.meeting-part-items.result.now c.loop-part.part-index c.part-item.result c.loop-part-test.true c.part-item.is c.loop-part.invariant.left in
    omega (arith, left_starts last_place end all c.loop-part.place (shown_part c.part-item.result) rest left)

pub loop-part-preserved : goal.loop-part-preserved
loop-part-preserved c =
    let size = last_place in
    let first = c.args.first in
    let bytes = c.args.bytes.now in
    let end = first + length bytes in
    let all = shown_parts c.args.parts.now in
    let place = c.loop-part.place in
    let part = shown_part c.part-item.result in
    let rest = shown_parts (drop (c.loop-part.part-index + 1) c.meeting-part-items.result.now) in
    let new = shown_parts c.loop-part.new.items in
    let left = left_at size end all place c.meeting-part-items.result.now c.loop-part.part-index c.part-item.result c.loop-part-test.true c.part-item.is c.loop-part.invariant.left in
    let starts = left_starts size end all place part rest left in
    let ends = end_is c.part-item.result c.end_of.result size c.end_of.ensures (left_ends size end all place part rest left) (omega arith) in
    let next_place : c.max-place.result ≡ max place (end_of part) = c.max-place.ensures ∙ ap (max place) ends in
    let more = fresh_more end first bytes all (omega arith) c.requires.piece place new c.loop-part.invariant.so_far part.first c.loop-part.invariant.from (omega (arith, starts))
    (λ at from lt. left_missing size end all place part rest left at from (omega (arith, starts)) lt) in
    record {
      from = omega (arith, c.loop-part.invariant.from, next_place);
      left = left_next size end all place part rest left c.max-place.result (omega (arith, next_place)) (omega (arith, next_place));
      so_far = rw c.in_ok-push_cut.ensures (fresh_past end first bytes all (omega arith) c.requires.piece (max place part.first)
          (new ++ cuts first bytes place part.first) more c.max-place.result (omega (arith, next_place))
          (λ at from lt below. left_kept size end all place part rest left at (omega arith) below (omega arith) (omega (arith, next_place))));
    }

pub returns : goal.returns
returns c =
    let first = c.args.first in
    let bytes = c.args.bytes.now in
    let end = first + length bytes in
    let all = shown_parts c.args.parts.now in
    let place = c.loop-part.place in
    let new = shown_parts c.loop-part.new.items in
    let left = subst (IsLeft last_place end all place) (finished c.meeting-part-items.result.now c.loop-part.part-index c.loop-part-test.false) c.loop-part.invariant.left in
    let more = fresh_more end first bytes all (omega arith) c.requires.piece place new c.loop-part.invariant.so_far end c.loop-part.invariant.from (omega arith)
    (λ at from lt. left_none last_place end all place left at from lt) in
    let longer = new ++ cuts first bytes place end in
    let is : shown_parts c.push_cut-2.new.new.items ≡ longer = c.in_ok-push_cut-2.ensures in
    record {
      adds = λ size within inside. rw is (fresh_adds size first bytes all (max place end) longer within
          (fresh_wider end size first bytes all (max place end) longer inside more) (omega arith));
      some = λ has. omega (
        arith,
        fresh_some last_place first bytes all (max place end) longer c.requires.order
            (fresh_wider end last_place first bytes all (max place end) longer (omega arith) more) (omega arith) has,
        ap length is,
        length-map c.push_cut-2.new.new.items shown_part,
      );
    }
