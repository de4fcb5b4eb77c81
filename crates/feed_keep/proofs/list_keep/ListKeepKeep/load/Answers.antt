use Rattle.std.proofs.Common.{◌≡◌, List, true, false, sym, ◌∙◌, ap, subst}
use Rattle.std.proofs.Math.Logic.{∥∥₁_elim}
use Rattle.std.specs.List.{IsDistinct}
use Rattle.feed_names.specs.ReleaseName.{name_eq}
use Rattle.feed_model.specs.Content.{Content, names}
use Rattle.feed_keep.specs.declared.record.Record as code
use Rattle.feed_keep.specs.Shown.{shown}
use Rattle.feed_keep.proofs.Arranged.{distinct_before, distinct_ordered}
use Rattle.feed_keep.specs.Order.{IsInOrder}
use Rattle.feed_keep.specs.Arranged.{ordered}
use Rattle.feed_keep.proofs.Order.{ordered_in_order}
use Rattle.feed_keep.proofs.list_keep.ListKeepKeep.load.Goals as goal

pub returns-then-has_twice-clause-damaged : goal.returns-then-has_twice-clause-damaged
returns-then-has_twice-clause-damaged c = λ _ _ listed. ∥∥₁_elim listed (λ x y. absurd x) (λ distinct.
    let apart = subst (λ (rs : List code.Record). IsDistinct name_eq (names (shown rs))) (sym c.deref.ensures.value) (distinct_before (shown c.args.self.now.records.items) distinct) in
    absurd (let e : true ≡ false = sym c.if-has_twice.true ∙ c.has_twice.ensures.1 apart in cc))

pub returns-in-Ok-clause-listed : goal.returns-in-Ok-clause-listed
returns-in-Ok-clause-listed c = λ _.
    let rs = c.args.self.now.records.items in
    let apart = subst (λ (rs : List code.Record). IsDistinct name_eq (names (shown rs))) c.deref.ensures.value (c.has_twice.ensures.0 c.if-has_twice.false) in
    ∣ distinct_ordered (shown rs) apart ∣₁

pub returns-in-Ok-clause-distinct : goal.returns-in-Ok-clause-distinct
returns-in-Ok-clause-distinct c =
    let apart = subst (λ (rs : List code.Record). IsDistinct name_eq (names (shown rs))) (c.deref.ensures.value ∙ sym c.deref-2.ensures.value) (c.has_twice.ensures.0 c.if-has_twice.false) in
    subst (λ (content : Content). IsDistinct name_eq (names content)) (sym c.in-Ok.ensures) (distinct_ordered (shown c.deref-2.result.now) apart)

pub returns-in-Ok-clause-order : goal.returns-in-Ok-clause-order
returns-in-Ok-clause-order c =
    let copy_parts = c.in-Ok.ensures ∙ ap (λ (rs : List code.Record). ordered (shown rs)) c.deref-2.ensures.value in
    subst IsInOrder (sym copy_parts) (ordered_in_order (shown c.args.self.now.records.items) c.args.self.now.order)
