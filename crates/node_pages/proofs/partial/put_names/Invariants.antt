use Rattle.std.proofs.Common.{◌≡◌, ◌++◌, drop}
use Rattle.std.specs.Prelude.{map}
use Rattle.node_pages.specs.Partial.{names_from}
use Rattle.node_pages.proofs.partial.put_names.Given as goal

-- the names so far, with those that are left, are all
abbrev pub invariant-loop-place : goal.invariant-loop-place
invariant-loop-place l = l.out.items ++ names_from l.site l.place (drop l.place (map (λ name. name.now) l.names)) ≡ l.fn.out.items ++ names_from l.site 0 (map (λ name. name.now) l.names)
