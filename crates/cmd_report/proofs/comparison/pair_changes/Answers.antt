use Rattle.std.proofs.lemmas.Result.{IfOk-weaker}
use Rattle.cmd_report.specs.Pairing.{ArePairedChanges, IsContinued}
use Rattle.cmd_report.specs.declared.order.By.TheVariants.{Url}
use Rattle.cmd_report.proofs.Composing.{paired_changes}
use Rattle.cmd_report.proofs.comparison.pair_changes.Goals as goal

pub returns : goal.returns
returns c =
    IfOk-weaker c.pair_rest.result (IsContinued Url c.in_ok-titles.titles) (ArePairedChanges c.args.old.items c.args.new.items)
    (λ whole w. paired_changes c.args.old.items c.args.new.items c.in_ok-titles.titles whole c.in_ok-titles.ensures w) c.pair_rest.ensures
