use Rattle.std.proofs.Common.{ap}
use Rattle.std.proofs.Math.Logic.{∥∥₁_elim}
use Rattle.sqlite.specs.Effect.{Database}
use Rattle.feed_store_model.specs.Tables.{stored_content}
use Rattle.feed_store.proofs.sql_keep.SqlKeepKeep.load.Goals as goal

pub returns-in-Ok-None-clause-damaged : goal.returns-in-Ok-None-clause-damaged
returns-in-Ok-None-clause-damaged g c damaged clean listed =
    let mine = c.self.invariant.1 clean.0 (c.read_records.ensures.leaves.live clean.1) in
    let has = rw (← c.self.view_is) at listed in
    ∥∥₁_elim has (λ x y. absurd x) (rw c.in-Ok-None.field-0-is at c.in-Ok-None.ensures.listed clean.1 mine)

pub returns-in-Ok-Some-clause-records : goal.returns-in-Ok-Some-clause-records
returns-in-Ok-Some-clause-records g c clean =
    let mine = c.self.invariant.1 clean.0 (c.read_records.ensures.leaves.live clean.1) in
    rw (← c.self.view_is) (rw c.in-Ok-Some.field-0-is at c.in-Ok-Some.ensures.records clean.1 mine)

pub returns-in-Ok-Some-clause-same : goal.returns-in-Ok-Some-clause-same
returns-in-Ok-Some-clause-same g c clean = rw (← c.self.view_is) (ap (λ (db : Database). stored_content db) (c.read_records.ensures.leaves.same clean.1))

pub returns-in-Ok-None-clause-same : goal.returns-in-Ok-None-clause-same
returns-in-Ok-None-clause-same g c clean = rw (← c.self.view_is) (ap (λ (db : Database). stored_content db) (c.read_records.ensures.leaves.same clean.1))

pub returns-in-Err-clause-same : goal.returns-in-Err-clause-same
returns-in-Err-clause-same g c clean = rw (← c.self.view_is) (ap (λ (db : Database). stored_content db) (c.read_records.ensures.leaves.same clean.1))
