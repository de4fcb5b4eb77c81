use Rattle.std.proofs.Common.{Ok, Err, Result, OnOk, OnErr, sym, ap, subst}
use Rattle.std.proofs.Math.Logic.{∥∥₁_map, ∥∥₁_elim}
use Rattle.sqlite.specs.Effect.{Database}
use Rattle.sqlite.specs.Held.{state}
use Rattle.feed_store_model.specs.Tables.{HoldsRecords, IsLayout2, stored_content}
use Rattle.feed_store_model.proofs.ContentSet.{content_set}
use Rattle.feed_store.proofs.sql_keep.SqlKeep.make.Goals as goal

-- of either answer
either : {X E : Type 0} (r : Result X E) (P Q R : Type 0) → OnOk r P → OnErr r Q → (P → R) → (Q → R) → R
either (Ok x) P Q R p q f g = f p
either (Err e) P Q R p q f g = g q

pub invariant_of-self : goal.invariant_of-self
invariant_of-self g c = (
  c.commit_change.ensures.idle,
  λ ours live.
      let was = c.commit_change.ensures.live live in
      let mine = c.self.invariant.1 ours was in
      let allowed = rw (← c.self.view_is) at c.requires.allowed in
      either c.commit_change.result _ _ (IsLayout2 (state g.S.Store c.commit_change.new.conn).now) (c.commit_change.ensures.whole live) (c.commit_change.ensures.neither live)
      (λ changed. (let is = allowed (ours, was) in changed is.0 is.1 mine).ours)
      (λ same. subst IsLayout2 (sym same) mine),
)

pub returns-in-Ok-clause-made : goal.returns-in-Ok-clause-made
returns-in-Ok-clause-made g c clean =
    let was = c.commit_change.ensures.live clean.1 in
    let mine = c.self.invariant.1 clean.0 was in
    let allowed = rw (← c.self.view_is) at c.requires.allowed in
    let listed = rw (← c.self.view_is) at c.requires.listed in
    rw (← c.self.view_is) (∥∥₁_elim (listed (clean.0, was)) (content_set _ _) (λ are. (c.in-Ok.ensures.whole clean.1 (allowed (clean.0, was)).0 (allowed (clean.0, was)).1 mine).content are))

pub returns-in-Ok-clause-listed : goal.returns-in-Ok-clause-listed
returns-in-Ok-clause-listed g c clean =
    let was = c.commit_change.ensures.live clean.1 in
    let mine = c.self.invariant.1 clean.0 was in
    let allowed = rw (← c.self.view_is) at c.requires.allowed in
    let listed = rw (← c.self.view_is) at c.requires.listed in
    ∥∥₁_map (listed (clean.0, was)) ((c.in-Ok.ensures.whole clean.1 (allowed (clean.0, was)).0 (allowed (clean.0, was)).1 mine).listed)

pub returns-in-Err-clause-refused : goal.returns-in-Err-clause-refused
returns-in-Err-clause-refused g c clean = rw (← c.self.view_is) (ap (λ (db : Database). stored_content db) (c.in-Err.ensures.neither clean.1))

pub returns-in-Err-clause-listed : goal.returns-in-Err-clause-listed
returns-in-Err-clause-listed g c clean =
    let was = c.commit_change.ensures.live clean.1 in
    let listed = rw (← c.self.view_is) at c.requires.listed in
    ∥∥₁_map (listed (clean.0, was)) (λ holds. subst HoldsRecords (sym (c.in-Err.ensures.neither clean.1)) holds)

pub returns-in-Ok-clause-clean : goal.returns-in-Ok-clause-clean
returns-in-Ok-clause-clean g c clean = rw (← c.self.view_is) (clean.0, c.commit_change.ensures.live clean.1)

pub returns-in-Err-clause-clean : goal.returns-in-Err-clause-clean
returns-in-Err-clause-clean g c clean = rw (← c.self.view_is) (clean.0, c.commit_change.ensures.live clean.1)
