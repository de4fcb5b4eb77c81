use Rattle.std.proofs.Common.{◌≡◌, ◌++◌, drop}
use Rattle.node_response.specs.JsonLists.{items_from}
use Rattle.node_hits.specs.HitsJson.{hit_object}
use Rattle.node_hits.proofs.hits_json.put_objects.Given as goal

abbrev pub invariant-loop-place : goal.invariant-loop-place
invariant-loop-place l = l.out.items ++ items_from (hit_object l.end) l.place (drop l.place l.hits) ≡ l.fn.out.items ++ items_from (hit_object l.end) 0 l.hits
