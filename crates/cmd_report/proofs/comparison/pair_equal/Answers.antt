use Rattle.std.proofs.lemmas.Result.{IfOk-weaker}
use Rattle.cmd_report.specs.Pairing.{ArePaired, IsContinued, IsPairing}
use Rattle.cmd_report.specs.declared.order.By.TheVariants.{Content}
use Rattle.cmd_report.proofs.Composing.{paired_equal}
use Rattle.cmd_report.proofs.comparison.pair_equal.Goals as goal

pub returns : goal.returns
returns c =
    let unchanged : ArePaired Content c.args.old.items c.args.new.items c.in_ok-unchanged.unchanged =
    rw (c.deref.ensures.value, c.deref-2.ensures.value) at c.in_ok-unchanged.ensures in
    IfOk-weaker c.pair_rest.result (IsContinued Content c.in_ok-unchanged.unchanged) (IsPairing Content c.args.old.items c.args.new.items)
    (λ whole w. paired_equal Content c.args.old.items c.args.new.items c.in_ok-unchanged.unchanged whole w unchanged) c.pair_rest.ensures
