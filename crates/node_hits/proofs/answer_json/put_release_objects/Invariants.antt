use Rattle.std.proofs.Common.{◌≡◌, ◌++◌, drop}
use Rattle.std.specs.Prelude.{map}
use Rattle.node_response.specs.JsonLists.{items_from}
use Rattle.node_hits.specs.AnswerJson.{release_object}
use Rattle.node_hits.proofs.answer_json.put_release_objects.Given as goal

-- the items so far, with those of the names that are left, are all
abbrev pub invariant-loop-place : goal.invariant-loop-place
invariant-loop-place l =
    l.out.items ++ items_from release_object l.place (drop l.place (map (λ name. name.now) l.names)) ≡ l.fn.out.items ++ items_from release_object 0 (map (λ name. name.now) l.names)
