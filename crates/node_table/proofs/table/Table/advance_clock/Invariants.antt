use Rattle.node_table.specs.declared.log.CloseCause.TheVariants.{TimedOut}
use Rattle.node_table.specs.Tables.{HasClosed}
use Rattle.node_table.proofs.Expired.{IsExpiredBelow}
use Rattle.node_table.proofs.table.Table.advance_clock.Given as goal

abbrev pub invariant-loop-key : goal.invariant-loop-key
invariant-loop-key g l =
    HasClosed g.L.Log.records TimedOut l.fn.self l.self l.fn.log l.log × IsExpiredBelow l.key l.now l.fn.self l.self
