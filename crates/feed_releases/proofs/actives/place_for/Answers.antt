use Rattle.std.proofs.Common.{◌≡◌, ◌-◌, true, arith, sym, ◌∙◌}
use Rattle.feed_releases.specs.Actives.{is_package_before}
use Rattle.feed_releases.proofs.Inserting.{before_all, insert_at}
use Rattle.feed_releases.proofs.actives.place_for.Goals as goal

pub returns-then-is_listed_before-clause-place : goal.returns-then-is_listed_before-clause-place
returns-then-is_listed_before-clause-place c =
    let actives = c.args.actives.now in
    let active = c.args.active.now in
    let before : is_package_before c.index-actives-at.result active ≡ true = sym c.is_listed_before.ensures ∙ c.if-is_listed_before.true in
    insert_at actives c.loop-at.at active c.loop-at.invariant.within
    (λ k d lt. before_all actives (c.loop-at.at - 1) c.index-actives-at.result active c.requires (omega arith) c.index-actives-at.is before k d (omega arith))
    c.loop-at.invariant.late

pub returns-clause-place : goal.returns-clause-place
returns-clause-place c = insert_at c.args.actives.now 0 c.args.active.now (omega arith) (λ k d lt. absurd (omega arith)) (λ k d le lt. c.loop-at.invariant.late k d (omega arith) lt)
