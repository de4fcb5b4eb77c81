use Rattle.std.proofs.Common.{◌≡◌, ◌++◌, take}
use Rattle.std.specs.List.{flat_map}
use Rattle.node_hits.specs.HitsText.{release_hit_line}
use Rattle.node_hits.proofs.hits_text.put_lines.Given as goal

abbrev pub invariant-loop-found : goal.invariant-loop-found
invariant-loop-found l = l.out.items ≡ l.fn.out.items ++ flat_map release_hit_line (take l.found-index l.hits)
