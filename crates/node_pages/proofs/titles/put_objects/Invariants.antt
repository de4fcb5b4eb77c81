use Rattle.std.proofs.Common.{◌≡◌, ◌++◌, drop}
use Rattle.node_response.specs.JsonLists.{items_from}
use Rattle.node_pages.specs.Titles.{title_object}
use Rattle.node_pages.proofs.titles.put_objects.Given as goal

abbrev pub invariant-loop-place : goal.invariant-loop-place
invariant-loop-place l = l.out.items ++ items_from title_object l.place (drop l.place l.found) ≡ l.fn.out.items ++ items_from title_object 0 l.found
