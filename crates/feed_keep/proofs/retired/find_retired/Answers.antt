use Rattle.std.proofs.Common.{◌∙◌, ◌++◌, [], ◌∷◌, Bool, map, take, sym, ap}
use Rattle.feed_keep.specs.Retired.{is_retired}
use Rattle.feed_keep.specs.Shown.{shown}
use Rattle.feed_keep.proofs.Later.{take_next}
use Rattle.feed_keep.proofs.retired.find_retired.Goals as goal

pub loop-record-preserved : goal.loop-record-preserved
loop-record-preserved c =
    let rs = c.args.records.now in
    let r = c.record-item.result in
    let found = rw c.deref.ensures.value at c.has_later.ensures in
    let same = found ∙ c.in_ok-actives.ensures.later r.name in
    let so_far = c.loop-record.invariant in
    c.in_ok-push.ensures.items ∙ ap (λ bs. bs ++ c.has_later.result ∷ []) so_far
    ∙ ap (λ (b : Bool). map (λ r. is_retired (shown rs) r.name) (take c.loop-record.record-index rs) ++ b ∷ []) same
    ∙ sym (take_next (λ r. is_retired (shown rs) r.name) rs c.loop-record.record-index r c.loop-record-test.true c.record-item.is)
