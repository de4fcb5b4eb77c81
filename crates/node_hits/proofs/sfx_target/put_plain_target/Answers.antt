use Rattle.std.proofs.lemmas.Result.{on_ok_weaker}
use Rattle.node_hits.proofs.SfxSteps.{plain_written}
use Rattle.node_hits.proofs.sfx_target.put_plain_target.Goals as goal

pub returns : goal.returns
returns c =
    on_ok_weaker c.put_closed.result
    (plain_written c.args.out.now.items c.put_opened.new.out.items c.put_service.new.out.items c.put_closed.new.out.items
    c.args.service.now c.in_ok-put_opened.ensures c.in_ok-put_service.ensures)
    c.put_closed.ensures
