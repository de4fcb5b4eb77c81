use Rattle.std.proofs.Common.{Some, None, sym, ◌∙◌, ap, subst}
use Rattle.std.proofs.Math.Logic.{∥∥₁_map}
use Rattle.std.specs.List.{IsDistinct}
use Rattle.feed_names.specs.ReleaseName.{name_eq}
use Rattle.feed_model.specs.Content.{Content, names}
use Rattle.feed_keep.specs.InMemory.{IsListed, content_of_list}
use Rattle.feed_keep.proofs.Listed.{distinct_after}
use Rattle.feed_model.specs.declared.state.State.TheVariants.{Staged, Broken, Active}
use Rattle.feed_model.specs.Change.{changed, new_record}
use Rattle.feed_parts.specs.Shown.{shown_parts}
use Rattle.feed_keep.specs.Arranged.{lengthened, ordered}
use Rattle.feed_keep.specs.Shown.{shown, shown_change}
use Rattle.feed_keep.proofs.Arranged.{insert_ordered, changed_ordered, active_ordered}
use Rattle.feed_keep.proofs.Order.{either_in_order, insert_in_order, lengthened_in_order, without_in_order}
use Rattle.feed_keep.proofs.list_keep.ListKeepKeep.commit.Goals.{in-Add, in-Pieces, in-Break, in-Activate}
use Rattle.feed_keep.proofs.list_keep.ListKeepKeep.commit.Goals as goal

pub returns-in-Ok-clause-made : goal.returns-in-Ok-clause-made
returns-in-Ok-clause-made c = λ _.
    let old = shown c.args.self.now.records.items in
    elim c.match-change.branch [
      | in-Add w ↦
          let made = rw (sym w.done-is ∙ c.in-Ok.is) at w.add-done.ensures.ok in
          rw (w.self-is, w.in-Add.is) (ap ordered made ∙ insert_ordered (new_record w.in-Add.name.now w.in-Add.size) old)
      | in-Pieces w ↦
          let made = rw (sym w.done-is ∙ c.in-Ok.is) at w.grow-done.ensures.ok in
          rw (w.self-is, w.in-Pieces.is) (ap ordered made ∙ changed_ordered w.in-Pieces.name.now (shown_parts w.in-Pieces.parts.now) Staged None old)
      | in-Break w ↦
          let made = rw (sym w.done-is ∙ c.in-Ok.is) at w.grow-done-in-Break.ensures.ok in
          rw (w.self-is, w.in-Break.is) (ap ordered made ∙ changed_ordered w.in-Break.name.now (shown_parts w.in-Break.parts.now) Broken (Some w.in-Break.reason) old)
      | in-Activate w ↦
          let made = rw (sym w.done-is ∙ c.in-Ok.is) at w.activate-done.ensures.ok in
          rw (w.self-is, w.in-Activate.is) (ap ordered made ∙ active_ordered w.in-Activate.name.now (shown_parts w.in-Activate.parts.now) Active None old)
    ]

pub returns-in-Ok-clause-listed : goal.returns-in-Ok-clause-listed
returns-in-Ok-clause-listed c = λ _. ∥∥₁_map (c.requires.listed tt) (λ (distinct : IsListed c.args.self.now).
    subst (λ (kept : Content). IsDistinct name_eq (names kept)) (sym (returns-in-Ok-clause-made c tt))
    (distinct_after _ (shown_change c.args.change.now) (content_of_list c.args.self.now) (c.requires.allowed tt) distinct))

pub invariant_of-self : goal.invariant_of-self
invariant_of-self c = record {
  order = either_in_order c.add-done.result _ _ _ c.add-done.ensures.ok c.add-done.ensures.err c.args.self.now.order
      (insert_in_order (new_record c.in-Add.name.now c.in-Add.size) (shown c.args.self.now.records.items) c.args.self.now.order);
}

pub invariant_of-self-in-Pieces : goal.invariant_of-self-in-Pieces
invariant_of-self-in-Pieces c = record {
  order = either_in_order c.grow-done.result _ _ _ c.grow-done.ensures.ok c.grow-done.ensures.err c.args.self.now.order
      (lengthened_in_order c.in-Pieces.name.now (shown_parts c.in-Pieces.parts.now) Staged None (shown c.args.self.now.records.items) c.args.self.now.order);
}

pub invariant_of-self-in-Break : goal.invariant_of-self-in-Break
invariant_of-self-in-Break c = record {
  order = either_in_order c.grow-done-in-Break.result _ _ _ c.grow-done-in-Break.ensures.ok c.grow-done-in-Break.ensures.err c.args.self.now.order
      (lengthened_in_order c.in-Break.name.now (shown_parts c.in-Break.parts.now) Broken (Some c.in-Break.reason) (shown c.args.self.now.records.items) c.args.self.now.order);
}

pub invariant_of-self-in-Activate : goal.invariant_of-self-in-Activate
invariant_of-self-in-Activate c =
    let old = shown c.args.self.now.records.items in
    let n = c.in-Activate.name.now in
    let ps = shown_parts c.in-Activate.parts.now in record {
      order = either_in_order c.activate-done.result _ _ _ c.activate-done.ensures.ok c.activate-done.ensures.err c.args.self.now.order
          (without_in_order n (changed n (lengthened ps Active None) old) (lengthened_in_order n ps Active None old c.args.self.now.order));
    }
