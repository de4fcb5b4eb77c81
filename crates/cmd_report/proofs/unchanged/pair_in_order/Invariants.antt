use Rattle.std.proofs.Common.{◌≤◌, length, take}
use Rattle.cmd_report.proofs.Merging.{ArePairedSoFar}
use Rattle.cmd_report.specs.declared.order.By.TheVariants.{Content}
use Rattle.cmd_report.proofs.unchanged.pair_in_order.Given as goal

abbrev pub invariant-loop-row : goal.invariant-loop-row
invariant-loop-row l = (l.next ≤ length l.new) × ArePairedSoFar Content (take l.row-index l.old) (take l.next l.new) l.pairs.items l.left_old.items l.left_new.items
