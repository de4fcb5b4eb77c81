use Rattle.std.proofs.Common.{IfOk}
use Rattle.std.proofs.lemmas.Result.{IfOk-weaker}
use Rattle.cmd_report.specs.Pairing.{IsPairing}
use Rattle.cmd_report.proofs.Merging.{resorted}
use Rattle.cmd_report.proofs.pairing.pair_up.Goals as goal

pub returns : goal.returns
returns c =
    let sorted : IfOk c.merge.result (IsPairing c.args.by c.sort.new.rows.items c.sort-2.new.rows.items) =
    rw (c.deref.ensures.value, c.deref-2.ensures.value) at c.merge.ensures in
    IfOk-weaker c.merge.result (IsPairing c.args.by c.sort.new.rows.items c.sort-2.new.rows.items) (IsPairing c.args.by c.args.old.items c.args.new.items)
    (resorted c.args.by c.args.old.items c.args.new.items c.sort.new.rows.items c.sort-2.new.rows.items c.sort.ensures.permutation c.sort-2.ensures.permutation) sorted
