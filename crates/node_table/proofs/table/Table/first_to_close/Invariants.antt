use Rattle.node_table.specs.Tables.{IsFirstBelow}
use Rattle.node_table.proofs.table.Table.first_to_close.Given as goal

abbrev pub invariant-loop-key : goal.invariant-loop-key
invariant-loop-key g l = IsFirstBelow l.shortage l.self l.key l.first
