use Rattle.std.proofs.lemmas.Result.{on_ok_weaker}
use Rattle.node_hits.proofs.SfxWritten.{nothing_written}
use Rattle.node_hits.proofs.sfx.put_no_targets.Goals as goal

pub returns : goal.returns
returns c =
    on_ok_weaker c.put_end.result
    (nothing_written c.args.out.now.items c.put_start.new.out.items c.put_closed.new.out.items c.put_end.new.out.items c.in_ok-put_start.ensures
    c.in_ok-put_closed.ensures)
    c.put_end.ensures
