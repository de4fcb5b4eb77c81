use Rattle.std.proofs.Common.{◌≡◌, ◌++◌, take}
use Rattle.std.specs.List.{flat_map}
use Rattle.node_hits.specs.SfxTexts.{package_text}
use Rattle.node_hits.proofs.sfx_more.put_packages.Given as goal

abbrev pub invariant-loop-name : goal.invariant-loop-name
invariant-loop-name l = l.out.items ≡ l.fn.out.items ++ flat_map (λ name. package_text l.site name.now) (take l.name-index l.names)
