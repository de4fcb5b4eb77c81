use Rattle.std.proofs.lemmas.Result.{on_ok_weaker}
use Rattle.node_hits.specs.Sfx.{names_marks, place_marks}
use Rattle.node_hits.proofs.SfxSteps.{two_written}
use Rattle.node_hits.proofs.sfx_target.put_service.Goals as goal

pub returns : goal.returns
returns c =
    on_ok_weaker c.put_place.result
    (two_written c.args.out.now.items c.put_names.new.out.items c.put_place.new.out.items (names_marks c.args.service.now) (place_marks c.args.service.now)
    c.in_ok-put_names.ensures)
    c.put_place.ensures
