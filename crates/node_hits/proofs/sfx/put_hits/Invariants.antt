use Rattle.std.proofs.Common.{◌≡◌, ◌++◌, take}
use Rattle.std.specs.List.{flat_map}
use Rattle.node_hits.specs.SfxTexts.{hit_text}
use Rattle.node_hits.proofs.sfx.put_hits.Given as goal

abbrev pub invariant-loop-found : goal.invariant-loop-found
invariant-loop-found l = l.out.items ≡ l.fn.out.items ++ flat_map (hit_text l.options l.site) (take l.found-index l.hits)
