use Rattle.std.proofs.Common.{◌++◌}
use Rattle.node_response.specs.JsonLists.{items_from}
use Rattle.node_hits.proofs.Loops.{items_next}
use Rattle.node_resolver.specs.Status.{active_object}
use Rattle.node_resolver.proofs.status.put_objects.Goals as goal

pub loop-place-preserved : goal.loop-place-preserved
loop-place-preserved c =
    items_next active_object c.args.actives.now c.loop-place.place c.index-actives-place.result c.loop-place-test.true c.index-actives-place.is
    (c.args.out.now.items ++ items_from active_object 0 c.args.actives.now) c.loop-place.out.items c.put_comma.new.out.items c.put_object.new.out.items
    c.loop-place.invariant c.in_ok-put_comma.ensures c.in_ok-put_object.ensures
