use Rattle.std.proofs.Common.{◌≡◌, ◌++◌, take}
use Rattle.std.specs.List.{flat_map}
use Rattle.node_hits.specs.SfxTexts.{way_text}
use Rattle.node_hits.proofs.sfx.put_each_way.Given as goal

abbrev pub invariant-loop-link : goal.invariant-loop-link
invariant-loop-link l = l.out.items ≡ l.fn.out.items ++ flat_map way_text (take l.link-index l.links)
