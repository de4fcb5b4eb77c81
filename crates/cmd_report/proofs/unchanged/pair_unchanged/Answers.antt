use Rattle.std.proofs.Common.{◌++◌}
use Rattle.std.proofs.lemmas.Result.{IfOk-weaker}
use Rattle.cmd_report.specs.Pairing.{ArePaired, firsts, seconds}
use Rattle.cmd_report.specs.declared.order.By.TheVariants.{Content}
use Rattle.cmd_report.proofs.Merging.{paired_again}
use Rattle.cmd_report.proofs.unchanged.pair_unchanged.Goals as goal

pub returns : goal.returns
returns c =
    let first = c.in_ok-first.first in
    IfOk-weaker c.take_apart.result (ArePaired Content (first.old.items ++ firsts first.pairs.items) (first.new.items ++ seconds first.pairs.items))
    (ArePaired Content c.args.old.now c.args.new.now) (λ kept again. paired_again Content c.args.old.now c.args.new.now first kept c.in_ok-first.ensures again) c.take_apart.ensures
