use Rattle.std.proofs.Common.{◌+◌, ◌-◌, length}
use Rattle.cmd_report.proofs.Merging.{IsMerging}
use Rattle.cmd_report.proofs.pairing.merge.Given as goal

abbrev pub invariant-loop-row : goal.invariant-loop-row
invariant-loop-row l = IsMerging l.by l.old l.i l.new l.j l.pairs.items l.left_old.items l.left_new.items

abbrev pub decreases-loop-row : goal.decreases-loop-row
decreases-loop-row l = (length l.old - l.i) + (length l.new - l.j)
