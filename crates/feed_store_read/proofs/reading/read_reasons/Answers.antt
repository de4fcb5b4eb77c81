use Rattle.std.proofs.Common.{◌≡◌, true, false, sym, subst, ◌∙◌}
use Rattle.std.specs.List.{IsDistinct}
use Rattle.std.specs.Ordering.{int_eq}
use Rattle.sqlite.specs.Held.{state}
use Rattle.feed_model.specs.Content.{Content}
use Rattle.feed_keep.specs.Shown.{shown}
use Rattle.feed_store_model.specs.Tables.{HoldsRecords}
use Rattle.feed_store_read.specs.Reasons.{AreReasonsOf}
use Rattle.feed_store_read.proofs.Explaining.{all_explained, are_proper, reason_ids_apart}
use Rattle.feed_store_read.proofs.reading.read_reasons.Goals as goal

pub returns-then-sort_distinct-clause-explained : goal.returns-then-sort_distinct-clause-explained
returns-then-sort_distinct-clause-explained g c live ours rows content =
    let db = (state g.S.Store c.args.conn.now).now in
    let ids = c.in-Some.ids.items in
    let new = shown c.select_reasons.new.records.items in
    let read = rw c.in-Some.is at (c.in_ok-ids.ensures.read live ours) in
    let apart = subst (IsDistinct int_eq) c.deref_mut.ensures.value (c.sort_distinct.ensures.0 c.if-sort_distinct.true) in
    let listed : HoldsRecords db = record { rows = rows; reasons = are_proper db ids _ new read.1 apart } in
    record { listed = listed; content = all_explained db ids new ours listed (subst (λ (c : Content). AreReasonsOf db ids c new) content read.1) }

pub returns-else-sort_distinct-clause-explained : goal.returns-else-sort_distinct-clause-explained
returns-else-sort_distinct-clause-explained g c live ours rows content are =
    let db = (state g.S.Store c.args.conn.now).now in
    let ids = c.in-Some.ids.items in
    let read = rw c.in-Some.is at (c.in_ok-ids.ensures.read live ours) in
    let d = reason_ids_apart db ids _ _ read.1 are.reasons in
    let yes = c.sort_distinct.ensures.1 (subst (IsDistinct int_eq) (sym c.deref_mut.ensures.value) d) in
    absurd (let e : true ≡ false = sym yes ∙ c.if-sort_distinct.false in cc)
