use Rattle.std.proofs.lemmas.Result.{on_ok_weaker}
use Rattle.node_hits.proofs.SfxSteps.{place_written}
use Rattle.node_hits.proofs.sfx_target.put_place.Goals as goal

pub returns : goal.returns
returns c =
    on_ok_weaker c.put_leaf-5.result
    (place_written c.args.out.now.items c.put_leaf.new.out.items c.put_leaf-2.new.out.items c.put_leaf-3.new.out.items c.put_leaf-4.new.out.items
    c.put_leaf-5.new.out.items _ c.args.service.now c.service.view_is c.in_ok-put_leaf.ensures c.in_ok-put_leaf-2.ensures c.in_ok-put_leaf-3.ensures
    c.in_ok-put_leaf-4.ensures)
    c.put_leaf-5.ensures
