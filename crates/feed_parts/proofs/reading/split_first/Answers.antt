use Rattle.std.proofs.Common.{◌≡◌, ◌∷◌, ap, subst, arith}
use Rattle.feed_model.specs.Content.{end_of, AreParts}
use Rattle.feed_parts.specs.Shown.{shown_part, shown_parts}
use Rattle.feed_parts.proofs.Rest.{finished}
use Rattle.feed_parts.proofs.Places.{starts_earlier}
use Rattle.feed_parts.proofs.Leading.{kept_leads, new_leads_kept, new_leads_none}
use Rattle.feed_parts.proofs.reading.split_first.Goals as goal
use Rattle.feed_parts.proofs.reading.split_first.Goals.{In-Some, in_default-split_first-via-in-Some-split_first+else-first-part, in_default-split_first-via-in_default-split_first}

new_are : (c : In-Some) → shown_parts c.args.new.now ≡ shown_part c.in-Some.part.now ∷ shown_parts c.in-Some.rest.now
new_are c = ap shown_parts c.in-Some.ensures.cases.0

order : (c : In-Some) → AreParts (shown_part c.in-Some.part.now ∷ shown_parts c.in-Some.rest.now)
order c = subst AreParts (new_are c) c.requires

pub returns-in-Some-split_first-clause-first : goal.returns-in-Some-split_first-clause-first
returns-in-Some-split_first-clause-first c =
    let some = (goal.at.returns-in-Some-split_first-clause-first c).In-Some in
    rw (c.in-Some-split_first.ensures.cases.0, new_are some) (kept_leads 0 (shown_part c.in-Some-split_first.first.now) (shown_part c.in-Some.part.now)
    (shown_parts c.in-Some-split_first.others.now) (shown_parts c.in-Some.rest.now) (order some) (omega (arith, c.if-first-part.true)))

pub returns-in_default-split_first-clause-first : goal.returns-in_default-split_first-clause-first
returns-in_default-split_first-clause-first c =
    let some = (goal.at.returns-in_default-split_first-clause-first c).In-Some in
    elim c.in_default-split_first.branch [
      | in_default-split_first-via-in-Some-split_first+else-first-part w ↦
          rw (w.in-Some-split_first.ensures.cases.0, new_are some) (new_leads_kept 0 (shown_part w.in-Some-split_first.first.now) (shown_part c.in-Some.part.now)
          (shown_parts w.in-Some-split_first.others.now) (shown_parts c.in-Some.rest.now) (order some) (omega (arith, w.if-first-part.false)))
      | in_default-split_first-via-in_default-split_first w ↦
          rw (finished c.args.kept.now 0 (omega (arith, w.in_default-split_first.ensures.cases)), new_are some)
          (new_leads_none 0 (shown_part c.in-Some.part.now) (shown_parts c.in-Some.rest.now) (order some))
    ]

pub returns-in_default-split_first-clause-order : goal.returns-in_default-split_first-clause-order
returns-in_default-split_first-clause-order c =
    starts_earlier (end_of (shown_part c.in-Some.part.now)) 0 (shown_parts c.in-Some.rest.now) (omega arith) (order (goal.at.returns-in_default-split_first-clause-order c).In-Some).3
