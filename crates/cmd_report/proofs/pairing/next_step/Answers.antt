use Rattle.std.proofs.Common.{rules, sym}
use Rattle.cmd_report.specs.Pairing.{IsAt, order}
use Rattle.cmd_report.proofs.Alike.{order_total}
use Rattle.cmd_report.proofs.Merging.{before_all, turned_greater}
use Rattle.cmd_report.proofs.pairing.next_step.Goals as goal

pub returns-in-Less : goal.returns-in-Less
returns-in-Less c =
    let here : IsAt c.args.old.now c.args.i c.in-Some-Some.old.now = search rules in
    let there : IsAt c.args.new.now c.args.j c.in-Some-Some.new.now = search rules in
    rw c.again.ensures (
      here,
      before_all (order c.args.by) (order_total c.args.by) c.args.new.now c.args.j c.in-Some-Some.old.now c.in-Some-Some.new.now c.requires.new there.0 there.1
          (sym c.in-Less.ensures),
    )

pub returns-in-Greater : goal.returns-in-Greater
returns-in-Greater c =
    let here : IsAt c.args.old.now c.args.i c.in-Some-Some.old.now = search rules in
    let there : IsAt c.args.new.now c.args.j c.in-Some-Some.new.now = search rules in
    rw c.again-in-Greater.ensures (
      there,
      before_all (order c.args.by) (order_total c.args.by) c.args.old.now c.args.i c.in-Some-Some.new.now c.in-Some-Some.old.now c.requires.old here.0 here.1
          (turned_greater (order c.args.by) (order_total c.args.by) c.in-Some-Some.old.now c.in-Some-Some.new.now (sym c.in-Greater.ensures)),
    )
