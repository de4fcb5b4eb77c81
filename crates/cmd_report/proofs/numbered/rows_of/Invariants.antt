use Rattle.std.proofs.Common.{◌≡◌, take}
use Rattle.cmd_report.proofs.numbered.rows_of.Given as goal

abbrev pub invariant-loop-one : goal.invariant-loop-one
invariant-loop-one l = l.rows.items ≡ take l.one-index l.numbered
