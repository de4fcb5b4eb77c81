use Rattle.std.proofs.Common.{◌≤◌, ◌+◌, ◌∷◌, drop, subst, arith}
use Rattle.std.proofs.lemmas.List.Elements.{All-head}
use Rattle.feed_model.specs.Content.{end_of}
use Rattle.feed_parts.specs.Segments.{last_place}
use Rattle.feed_parts.specs.Shown.{shown_part, shown_parts}
use Rattle.feed_parts.proofs.Rest.{next, finished}
use Rattle.feed_parts.proofs.Agreed.{IsAgreed, agreed_start, agreed_next, agreed_all, differs_in_all}
use Rattle.feed_parts.proofs.overlap.conflicts.Goals as goal
use Rattle.feed_parts.proofs.overlap.conflicts.Goals.{After-part-item}

at_part : (c : After-part-item)
    → IsAgreed last_place (shown_parts c.args.parts.now) c.args.first c.args.bytes.now
    (shown_part c.part-item.result ∷ shown_parts (drop (c.loop-part.part-index + 1) c.meeting-part-items.result.now))
at_part c =
    subst (IsAgreed last_place (shown_parts c.args.parts.now) c.args.first c.args.bytes.now)
    (next c.meeting-part-items.result.now c.loop-part.part-index c.part-item.result c.loop-part-test.true c.part-item.is) c.loop-part.invariant

pub loop-part-init : goal.loop-part-init
loop-part-init c =
    agreed_start last_place (shown_parts c.args.parts.now) c.args.first c.args.bytes.now
    (shown_parts c.meeting-part-items.result.now) c.meeting-part-items.ensures.order c.meeting-part-items.ensures.same

pub differs-requires-clause-part : goal.differs-requires-clause-part
differs-requires-clause-part c =
    let rest = shown_parts (drop (c.loop-part.part-index + 1) c.meeting-part-items.result.now) in
    let agreed = at_part (goal.at.differs-requires-clause-part c).After-part-item in
    let inside = All-head (λ q. end_of q ≤ last_place) (shown_part c.part-item.result) rest agreed.order.inside in
    omega (arith, inside, c.part-item.result.bytes.ok.0)

pub loop-part-preserved : goal.loop-part-preserved
loop-part-preserved c =
    let rest = shown_parts (drop (c.loop-part.part-index + 1) c.meeting-part-items.result.now) in
    agreed_next last_place (shown_parts c.args.parts.now) c.args.first c.args.bytes.now (shown_part c.part-item.result) rest (at_part (goal.at.loop-part-preserved c).After-part-item)
    (c.differs.ensures.agrees c.if-differs.false)

pub returns-then-differs : goal.returns-then-differs
returns-then-differs c =
    let rest = shown_parts (drop (c.loop-part.part-index + 1) c.meeting-part-items.result.now) in
    record {
      differs = λ t. differs_in_all last_place (shown_parts c.args.parts.now) c.args.first c.args.bytes.now (shown_part c.part-item.result) rest
          (at_part (goal.at.returns-then-differs c).After-part-item) (c.differs.ensures.differs c.if-differs.true);
      agrees = λ e. absurd (cc e);
    }

pub returns : goal.returns
returns c = record {
  differs = λ t. absurd (cc t);
  agrees = λ e. agreed_all last_place (shown_parts c.args.parts.now) c.args.first c.args.bytes.now
      (subst (IsAgreed last_place (shown_parts c.args.parts.now) c.args.first c.args.bytes.now)
      (finished c.meeting-part-items.result.now c.loop-part.part-index c.loop-part-test.false) c.loop-part.invariant);
}
