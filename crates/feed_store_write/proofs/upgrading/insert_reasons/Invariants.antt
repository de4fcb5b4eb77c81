use Rattle.std.proofs.Common.{take}
use Rattle.sqlite.specs.Held.{state}
use Rattle.sqlite.specs.State.{HasCleanDisk}
use Rattle.feed_keep.specs.Shown.{shown}
use Rattle.feed_store_write.specs.Effects.{IsReasonChangeIf, IsMade, StaysInside}
use Rattle.feed_store_write.specs.Upgrading.{AreStored, explained_with}
use Rattle.feed_store_write.specs.Statements.{HaveRun, reasons_of}
use Rattle.feed_store_write.proofs.upgrading.insert_reasons.Given as goal

-- the reasons of the records that were passed are added, inside the transaction
abbrev pub invariant-loop-record : goal.invariant-loop-record
invariant-loop-record g l =
    let old = state g.S.Store l.fn.tx.conn.now in
    let now = state g.S.Store l.tx.conn.now in
    let passed = shown (take l.record-index l.records) in record {
      inside : StaysInside g.S.Store l.fn.tx.conn l.tx.conn;
      ran : HasCleanDisk now → HaveRun g.S.Store (reasons_of passed) l.fn.tx.conn.now l.tx.conn.now;
      made : HasCleanDisk now → IsMade (IsReasonChangeIf (AreStored passed) (explained_with passed)) old now;
    }
