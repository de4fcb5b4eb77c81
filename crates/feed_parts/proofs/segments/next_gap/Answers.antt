use Rattle.std.proofs.Common.{◌≡◌, ◌+◌, ◌∷◌, Bool, true, false, nat_lt, sym, drop, subst, refl, arith}
use Rattle.std.proofs.lemmas.Bool.{ltb-true, ltb-false}
use Rattle.std.specs.Bool.{then_some}
use Rattle.feed_model.specs.Content.{byte_in}
use Rattle.feed_parts.specs.Segments.{IsFirstGap}
use Rattle.feed_parts.specs.Shown.{shown_part, shown_parts}
use Rattle.feed_parts.proofs.Rest.{next, finished, end_is}
use Rattle.feed_parts.proofs.Filled.{IsFilled, filled_start, filled_next, missing_before, kept_next, next_inside}
use Rattle.feed_parts.proofs.segments.next_gap.Goals as goal
use Rattle.feed_parts.proofs.segments.next_gap.Goals.{After-part-item}

-- the part of this turn is the first of the rest
at_part : (c : After-part-item)
    → IsFilled c.args.size (shown_parts c.args.parts.now) c.loop-part.first (shown_part c.part-item.result ∷ shown_parts (drop (c.loop-part.part-index + 1) c.args.parts.now))
at_part c =
    subst (IsFilled c.args.size (shown_parts c.args.parts.now) c.loop-part.first)
    (next c.args.parts.now c.loop-part.part-index c.part-item.result c.loop-part-test.true c.part-item.is) c.loop-part.invariant

pub loop-part-init : goal.loop-part-init
loop-part-init c = filled_start c.args.size (shown_parts c.args.parts.now) c.requires

pub loop-part-preserved : goal.loop-part-preserved
loop-part-preserved c =
    let all = shown_parts c.args.parts.now in
    let part = shown_part c.part-item.result in
    let rest = shown_parts (drop (c.loop-part.part-index + 1) c.args.parts.now) in
    let filled = at_part (goal.at.loop-part-preserved c).After-part-item in
    let inside = next_inside c.args.size all c.loop-part.first part rest filled in
    let end = end_is c.part-item.result c.end_of-first.result c.args.size c.end_of-first.ensures inside (omega arith) in
    subst (λ place. IsFilled c.args.size all place rest) (sym end) (filled_next c.args.size all c.loop-part.first part rest filled c.if-first-part.false)

pub returns-then-first-part : goal.returns-then-first-part
returns-then-first-part c =
    let all = shown_parts c.args.parts.now in
    let part = shown_part c.part-item.result in
    let rest = shown_parts (drop (c.loop-part.part-index + 1) c.args.parts.now) in
    let filled = at_part (goal.at.returns-then-first-part c).After-part-item in
    let inside = next_inside c.args.size all c.loop-part.first part rest filled in
    record {
      some = c.if-first-part.true;
      before = c.loop-part.invariant.kept;
      missing = missing_before c.args.size all c.loop-part.first part rest filled;
      within = omega arith;
      after = λ lt. kept_next c.args.size all c.loop-part.first part rest filled;
    }

pub returns : goal.returns
returns c = rw c.then_some.ensures (by (nat_lt c.loop-part.first c.args.size) refl)
  where
    by : (b : Bool) → nat_lt c.loop-part.first c.args.size ≡ b → IsFirstGap (byte_in (shown_parts c.args.parts.now)) c.args.size (then_some b (record { first = c.loop-part.first; end = c.args.size }))
    by true lt = record {
      some = ltb-true _ _ lt;
      before = c.loop-part.invariant.kept;
      missing = λ place le under. rw (c.loop-part.invariant.same place le, finished c.args.parts.now c.loop-part.part-index c.loop-part-test.false) refl;
      within = omega arith;
      after = λ under. absurd (omega arith);
    }
    by false ge = λ place lt. c.loop-part.invariant.kept place (omega (arith, ltb-false _ _ ge))
