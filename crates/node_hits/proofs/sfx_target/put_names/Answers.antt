use Rattle.std.proofs.lemmas.Result.{on_ok_weaker}
use Rattle.node_hits.proofs.SfxSteps.{names_written}
use Rattle.node_hits.proofs.sfx_target.put_names.Goals as goal

pub returns : goal.returns
returns c =
    on_ok_weaker c.put_leaf-3.result
    (names_written c.args.out.now.items c.put_leaf.new.out.items c.put_leaf-2.new.out.items c.put_number_leaf.new.out.items c.put_leaf-3.new.out.items _
    c.args.service.now c.from.result c.service.view_is c.from.ensures c.in_ok-put_leaf.ensures c.in_ok-put_leaf-2.ensures c.in_ok-put_number_leaf.ensures)
    c.put_leaf-3.ensures
