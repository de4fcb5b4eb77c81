use Rattle.cmd_report.proofs.Merging.{both_more, new_more, old_more}
use Rattle.cmd_report.proofs.pairing.merge.Goals as goal

pub loop-row-preserved-in-Old : goal.loop-row-preserved-in-Old
loop-row-preserved-in-Old c =
    rw c.in_ok-push-in-Old.ensures.items (old_more c.args.by c.args.old.now c.args.new.now c.loop-row.i c.loop-row.j c.loop-row.pairs.items c.loop-row.left_old.items
    c.loop-row.left_new.items c.loop-row.invariant c.in-Old.row c.in-Old.ensures.0 c.in-Old.ensures.1)

pub loop-row-preserved-in-New : goal.loop-row-preserved-in-New
loop-row-preserved-in-New c =
    rw c.in_ok-push-in-New.ensures.items (new_more c.args.by c.args.old.now c.args.new.now c.loop-row.i c.loop-row.j c.loop-row.pairs.items c.loop-row.left_old.items
    c.loop-row.left_new.items c.loop-row.invariant c.in-New.row c.in-New.ensures.0 c.in-New.ensures.1)

pub loop-row-preserved : goal.loop-row-preserved
loop-row-preserved c =
    rw c.in_ok-push-in-Both.ensures.items (both_more c.args.by c.args.old.now c.args.new.now c.loop-row.i c.loop-row.j c.loop-row.pairs.items c.loop-row.left_old.items
    c.loop-row.left_new.items c.loop-row.invariant c.in-Both.pair c.in-Both.ensures.0 c.in-Both.ensures.1 c.in-Both.ensures.2)
