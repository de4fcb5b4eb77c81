use Rattle.std.proofs.Common.{map, take}
use Rattle.sqlite.specs.Held.{state}
use Rattle.sqlite.specs.State.{HasCleanDisk}
use Rattle.feed_model.specs.Change.{changed}
use Rattle.feed_parts.specs.Shown.{shown_parts}
use Rattle.feed_store_model.specs.Records.{with_parts}
use Rattle.feed_store_write.specs.Effects.{IsContentChange, IsMade, StaysInside}
use Rattle.feed_store_write.specs.Statements.{AddPart, HaveRun}
use Rattle.feed_store_write.proofs.statements.insert_parts.Given as goal

-- the parts that were passed are added, inside the transaction
abbrev pub invariant-loop-part : goal.invariant-loop-part
invariant-loop-part g l =
    let old = state g.S.Store l.fn.tx.conn.now in
    let now = state g.S.Store l.tx.conn.now in record {
      inside : StaysInside g.S.Store l.fn.tx.conn l.tx.conn;
      ran : HasCleanDisk now → HaveRun g.S.Store (map (AddPart l.name) (shown_parts (take l.part-index l.parts))) l.fn.tx.conn.now l.tx.conn.now;
      made : HasCleanDisk now → IsMade (IsContentChange (changed l.name (with_parts (shown_parts (take l.part-index l.parts))))) old now;
    }
