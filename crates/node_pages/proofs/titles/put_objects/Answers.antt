use Rattle.std.proofs.Common.{◌++◌}
use Rattle.node_response.specs.JsonLists.{items_from}
use Rattle.node_hits.proofs.Loops.{items_next}
use Rattle.node_pages.specs.Titles.{title_object}
use Rattle.node_pages.proofs.titles.put_objects.Goals as goal

pub loop-place-preserved : goal.loop-place-preserved
loop-place-preserved c =
    items_next title_object c.args.found.now c.loop-place.place c.index-found-place.result c.loop-place-test.true c.index-found-place.is
    (c.args.out.now.items ++ items_from title_object 0 c.args.found.now) c.loop-place.out.items c.put_comma.new.out.items c.put_object.new.out.items
    c.loop-place.invariant c.in_ok-put_comma.ensures c.in_ok-put_object.ensures
