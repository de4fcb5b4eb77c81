use Rattle.std.proofs.Common.{◌≡◌, false, arith, sym, ◌∙◌, ap}
use Rattle.feed_names.specs.ReleaseName.{Name}
use Rattle.feed_model.specs.Change.{comes_before}
use Rattle.feed_releases.proofs.Finding.{insert_at}
use Rattle.feed_releases.proofs.releases.place_for.Goals as goal

pub returns-then-not-is_listed_before-clause-place : goal.returns-then-not-is_listed_before-clause-place
returns-then-not-is_listed_before-clause-place c r same =
    let stop : comes_before c.index-releases-at.result.kept.name c.args.name.now ≡ false = ap (λ (n : Name). comes_before n c.args.name.now) (sym c.name.ensures) ∙ sym c.is_listed_before.ensures
    ∙ c.if-not-is_listed_before.true in
    insert_at c.args.releases.now c.loop-at.at r (omega arith) (rw same c.loop-at.invariant) (λ lt. (c.index-releases-at.result, c.index-releases-at.is, rw same stop))

pub returns-clause-place : goal.returns-clause-place
returns-clause-place c r same = insert_at c.args.releases.now _ r (omega arith) (λ k d lt. rw same (c.loop-at.invariant k d (omega arith))) (λ lt. absurd (omega arith))
