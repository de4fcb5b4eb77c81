use Rattle.std.proofs.Common.{◌≡◌, ◌<◌, ◌++◌, ◌∙◌, ap, arith, get_or, length, sym}
use Rattle.std.specs.Prelude.{map}
use Rattle.feed_names.specs.ReleaseName.{Name}
use Rattle.node_response.specs.JsonLists.{items_from}
use Rattle.node_hits.specs.AnswerJson.{release_object}
use Rattle.node_hits.proofs.Loops.{items_next, mapped_at, mapped_within}
use Rattle.node_hits.proofs.answer_json.put_release_objects.Goals as goal

pub loop-place-preserved : goal.loop-place-preserved
loop-place-preserved c =
    items_next release_object (map (λ name. name.now) c.args.names.now) c.loop-place.place c.index-names-place.result.now
    (mapped_within (λ name. name.now) c.args.names.now c.loop-place.place c.loop-place-test.true)
    (mapped_at (λ name. name.now) c.args.names.now c.loop-place.place c.index-names-place.result c.index-names-place.is)
    (c.args.out.now.items ++ items_from release_object 0 (map (λ name. name.now) c.args.names.now)) c.loop-place.out.items c.put_comma.new.out.items
    c.put_release_object.new.out.items c.loop-place.invariant c.in_ok-put_comma.ensures c.in_ok-put_release_object.ensures
