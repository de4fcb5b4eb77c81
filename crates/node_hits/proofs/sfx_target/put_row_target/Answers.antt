use Rattle.std.proofs.lemmas.Result.{on_ok_weaker}
use Rattle.node_hits.specs.Sfx.{if_detailed}
use Rattle.node_hits.proofs.SfxSteps.{target_written}
use Rattle.node_hits.proofs.sfx_target.put_row_target.Goals as goal

pub returns : goal.returns
returns c =
    on_ok_weaker c.put_closed.result
    (target_written c.args.out.now.items c.put_opened.new.out.items c.put_service.new.out.items c.put_coverage.new.out.items c.put_closed.new.out.items
    c.args.service.now (if_detailed c.args.is_detailed c.args.row.now) c.in_ok-put_opened.ensures c.in_ok-put_service.ensures c.in_ok-put_coverage.ensures)
    c.put_closed.ensures
