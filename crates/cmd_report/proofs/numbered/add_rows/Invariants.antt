use Rattle.std.proofs.Common.{◌≡◌, ◌++◌, take}
use Rattle.cmd_report.proofs.numbered.add_rows.Given as goal

abbrev pub invariant-loop-row : goal.invariant-loop-row
invariant-loop-row l = l.numbered.items ≡ l.fn.numbered.items ++ take l.row-index l.rows
