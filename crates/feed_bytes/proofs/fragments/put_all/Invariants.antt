use Rattle.std.proofs.Common.{◌≡◌, ◌++◌, take}
use Rattle.std.specs.List.{flat_map}
use Rattle.feed_bytes.proofs.fragments.put_all.Given as goal

abbrev pub invariant-loop-fragment : goal.invariant-loop-fragment
invariant-loop-fragment g l = l.out.items ≡ l.fn.out.items ++ flat_map g.P.PutFragment.text (take l.fragment-index l.fragments)
