use Rattle.std.proofs.Common.{◌≡◌, map, take}
use Rattle.cmd_report.specs.Pairing.{row_of}
use Rattle.cmd_report.proofs.comparison.references.Given as goal

abbrev pub invariant-loop-row : goal.invariant-loop-row
invariant-loop-row l = map row_of l.list.items ≡ take l.row-index l.rows
