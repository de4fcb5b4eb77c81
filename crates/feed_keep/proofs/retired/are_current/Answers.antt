use Rattle.std.proofs.Common.{◌≡◌, ◌∙◌, true, refl, sym, arith}
use Rattle.feed_keep.specs.Retired.{is_retired}
use Rattle.feed_keep.specs.Shown.{shown}
use Rattle.feed_keep.proofs.Later.{all_kept, kept_next, one_retired}
use Rattle.feed_keep.proofs.retired.are_current.Goals as goal

pub loop-record-init : goal.loop-record-init
loop-record-init c = λ k d less within. absurd (omega (arith, less))

pub returns-then-has_later : goal.returns-then-has_later
returns-then-has_later c =
    let rs = c.args.records.now in
    let r = c.record-item.result in
    let found = rw c.deref.ensures.value at c.has_later.ensures in
    let is : is_retired (shown rs) r.name ≡ true = sym (c.in_ok-actives.ensures.later r.name) ∙ sym found ∙ c.if-has_later.true in
    (λ t. absurd (cc), λ all. absurd (one_retired rs c.loop-record.record-index r c.requires.distinct c.loop-record-test.true c.record-item.is is all))

pub loop-record-preserved : goal.loop-record-preserved
loop-record-preserved c =
    let rs = c.args.records.now in
    let r = c.record-item.result in
    let found = rw c.deref.ensures.value at c.has_later.ensures in
    kept_next rs c.loop-record.record-index r c.loop-record.invariant c.loop-record-test.true c.record-item.is
    (sym (c.in_ok-actives.ensures.later r.name) ∙ sym found ∙ c.if-has_later.false)

pub returns : goal.returns
returns c = (λ t. all_kept c.args.records.now c.loop-record.record-index c.loop-record.invariant c.loop-record-test.false, λ all. refl)
