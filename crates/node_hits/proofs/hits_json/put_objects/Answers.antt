use Rattle.std.proofs.Common.{◌++◌, ◌∙◌, ap}
use Rattle.node_response.specs.JsonLists.{items_from}
use Rattle.node_hits.specs.Hits.{ReleaseHitValue}
use Rattle.node_hits.specs.HitsJson.{hit_object}
use Rattle.node_hits.proofs.Loops.{items_next}
use Rattle.node_hits.proofs.hits_json.put_objects.Goals as goal

pub loop-place-preserved : goal.loop-place-preserved
loop-place-preserved c =
    items_next (hit_object c.args.end.now) c.args.hits.now c.loop-place.place c.index-hits-place.result c.loop-place-test.true c.index-hits-place.is
    (c.args.out.now.items ++ items_from (hit_object c.args.end.now) 0 c.args.hits.now) c.loop-place.out.items c.put_comma.new.out.items c.put_object.new.out.items
    c.loop-place.invariant c.in_ok-put_comma.ensures
    (c.in_ok-put_object.ensures ∙ ap (λ (found : ReleaseHitValue). c.put_comma.new.out.items ++ hit_object c.args.end.now found) c.hit.ensures)
