use Rattle.std.proofs.Common.{length}
use Rattle.node_pages.proofs.number_faults.+right_last.Given as goal

abbrev pub decreases-right_last : goal.decreases-right_last
decreases-right_last l = length l.choices.now
