use Rattle.std.proofs.Common.{subst}
use Rattle.std.specs.Io.KnownBytes.{Appends}
use Rattle.cmd_scholar.specs.Items.{item_text}
use Rattle.cmd_scholar.proofs.Written.{appends_next, appends_nothing}
use Rattle.cmd_scholar.proofs.writing.write_items.Goals as goal

pub loop-row-init : goal.loop-row-init
loop-row-init g c = appends_nothing (g.W.Write.contents c.args.out.now)

pub loop-row-preserved : goal.loop-row-preserved
loop-row-preserved g c =
    appends_next item_text (g.W.Write.contents c.args.out.now) (g.W.Write.contents c.loop-row.out) (g.W.Write.contents c.write_item.new.out)
    c.args.rows.now c.loop-row.row-index c.row-item.result c.loop-row-test.true c.loop-row.invariant
    (subst (λ row. Appends (g.W.Write.contents c.loop-row.out) (g.W.Write.contents c.write_item.new.out) (item_text row)) c.row-item.is c.in_ok-write_item.ensures)
