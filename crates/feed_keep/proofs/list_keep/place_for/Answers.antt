use Rattle.std.proofs.Common.{◌≡◌, false, arith, sym, ◌∙◌}
use Rattle.feed_model.specs.Change.{comes_before}
use Rattle.feed_keep.proofs.Records.{insert_at}
use Rattle.feed_keep.proofs.list_keep.place_for.Goals as goal

pub returns-then-not-is_listed_before-clause-place : goal.returns-then-not-is_listed_before-clause-place
returns-then-not-is_listed_before-clause-place c r same =
    let stop : comes_before c.index-records-at.result.name c.args.name.now ≡ false = sym c.is_listed_before.ensures ∙ c.if-not-is_listed_before.true in
    insert_at c.args.records.now c.loop-at.at r (omega arith) (rw same c.loop-at.invariant) (λ lt. (c.index-records-at.result, c.index-records-at.is, rw same stop))

pub returns-clause-place : goal.returns-clause-place
returns-clause-place c r same = insert_at c.args.records.now _ r (omega arith) (λ k d lt. rw same (c.loop-at.invariant k d (omega arith))) (λ lt. absurd (omega arith))
