use Rattle.std.proofs.Common.{inl, inr}
use Rattle.std.specs.Prelude.{vec_capacity}
use Rattle.std.specs.Vec.Iter.{into_iter_items}
use Rattle.feed_releases.proofs.Reopened.{pushed_content, reopened_all, reopened_not, reopened_rest_not, reopened_sound, reopening_pushed}
use Rattle.feed_releases.proofs.feed.reopen.Reopening.step.Goals as goal

pub returns-in-Ok-None-clause-ok : goal.returns-in-Ok-None-clause-ok
returns-in-Ok-None-clause-ok c =
    let i = c.self.inside in
    let next = rw c.in-Ok-None.field-0-is at c.in-Ok-None.ensures.ok in
    let same = reopened_all i.releases.items i.current (into_iter_items i.rest) (into_iter_items c.next_check.new.rest) next in
    rw (← c.self.view_is) (same, reopened_sound i.releases.items (vec_capacity i.releases) _ same c.self.invariant)

pub returns-in-Err-clause-err : goal.returns-in-Err-clause-err
returns-in-Err-clause-err c =
    let i = c.self.inside in
    inr (c.in-Err.ensures.err.0, rw (← c.self.view_is) (reopened_rest_not i.releases.items i.current (into_iter_items i.rest) c.in-Err.ensures.err.1))

pub invariant_of-result-in-Ok-Done : goal.invariant_of-result-in-Ok-Done
invariant_of-result-in-Ok-Done c =
    let i = c.self.inside in
    let next = rw c.in-Ok-Some.field-0-is at c.in-Ok-Some.ensures.ok in
    let done = rw c.in-Ok-Done.field-0-is at c.in-Ok-Done.ensures.ok in
    let content = pushed_content i.releases.items c.push_reserved.new.self.items c.in-Ok-Done.release i.current c.in-Ok-Some.check (into_iter_items i.rest) (into_iter_items c.next_check.new.rest) next
    c.push_reserved.ensures.items done.0 in
    reopening_pushed i.releases.items c.push_reserved.new.self.items c.in-Ok-Done.release c.in-Ok-Some.check.kept (vec_capacity i.releases) (vec_capacity c.push_reserved.new.self) _ _
    c.push_reserved.ensures.items done.0 done.1 content c.push_reserved.ensures.capacity c.self.invariant

pub returns-in-Err-step-clause-err : goal.returns-in-Err-step-clause-err
returns-in-Err-step-clause-err c =
    let i = c.self.inside in
    let next = rw c.in-Ok-Some.field-0-is at c.in-Ok-Some.ensures.ok in
    elim c.in-Err-step.ensures.err [
      | inl memory ↦ inl memory
      | inr damaged ↦ inr (
        damaged.0,
        rw (← c.self.view_is) (reopened_not i.releases.items i.current c.in-Ok-Some.check (into_iter_items i.rest) (into_iter_items c.next_check.new.rest) next damaged.1),
      )
    ]
