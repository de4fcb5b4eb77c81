use Rattle.std.proofs.Common.{◌≡◌, ◌++◌, drop}
use Rattle.node_response.specs.JsonLists.{items_from}
use Rattle.node_resolver.specs.Status.{active_object}
use Rattle.node_resolver.proofs.status.put_objects.Given as goal

abbrev pub invariant-loop-place : goal.invariant-loop-place
invariant-loop-place l = l.out.items ++ items_from active_object l.place (drop l.place l.actives) ≡ l.fn.out.items ++ items_from active_object 0 l.actives
