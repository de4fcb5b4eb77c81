use Rattle.std.proofs.Common.{refl}
use Rattle.sqlite.proofs.Callers.{memory_is_clean}
use Rattle.sqlite.specs.Held.{Held, state}
use Rattle.sqlite.specs.State.{State}
use Rattle.sqlite.specs.Steps.{IsEmpty, over_memory}
use Rattle.sqlite_trees.specs.declared.memory.MemStore.{MemStore}
use Rattle.feed_store_model.specs.Live.{IsLive}
use Rattle.feed_store_write.specs.Schemas.{HasNoTable}
use Rattle.feed_store.proofs.sql_keep.SqlKeep+MemStore.open_memory.Goals as goal

live_in : (held : Held MemStore) → IsLive (state over_memory held)
live_in held = (memory_is_clean held, refl)

no_tables : (s : State) → IsEmpty s → HasNoTable s.now
no_tables s it = record { schema_is = it.2; empty = tt }

pub returns-in-Ok-adopt-clause-clean : goal.returns-in-Ok-adopt-clause-clean
returns-in-Ok-adopt-clause-clean c =
    let live = live_in c.in-Ok-adopt.keep.0 in
    ((c.in-Ok-adopt.ensures.adopted.blank live (no_tables (state over_memory c.in-Ok.conn) c.in-Ok.ensures.empty)).0, live)

pub returns-in-Ok-adopt-clause-blank : goal.returns-in-Ok-adopt-clause-blank
returns-in-Ok-adopt-clause-blank c =
    (c.in-Ok-adopt.ensures.adopted.blank (live_in c.in-Ok-adopt.keep.0) (no_tables (state over_memory c.in-Ok.conn) c.in-Ok.ensures.empty)).1

pub returns-in-Err-clause-cause : goal.returns-in-Err-clause-cause
returns-in-Err-clause-cause c is =
    (c.in-Err.ensures.cause is (live_in c.in-Err.fault.connection)).blank (no_tables (state over_memory c.in-Ok.conn) c.in-Ok.ensures.empty)
