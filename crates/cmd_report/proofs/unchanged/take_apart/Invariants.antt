use Rattle.cmd_report.proofs.Merging.{ArePairedSoFar, news_upto, olds_upto}
use Rattle.cmd_report.specs.declared.order.By.TheVariants.{Content}
use Rattle.cmd_report.proofs.unchanged.take_apart.Given as goal

abbrev pub invariant-loop-pair : goal.invariant-loop-pair
invariant-loop-pair l = ArePairedSoFar Content (olds_upto l.fn.first l.pair-index) (news_upto l.fn.first l.pair-index) l.kept.items l.old.items l.new.items
