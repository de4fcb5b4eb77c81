use Rattle.std.proofs.Common.{◌≡◌, ◌++◌, drop, map}
use Rattle.feed_openurl.specs.Keys.{keyed}
use Rattle.feed_openurl.proofs.value.values_of.Given as goal

-- the values so far, with those of the pairs that are left, are all of them
abbrev pub invariant-loop-pair : goal.invariant-loop-pair
invariant-loop-pair l = l.values.items ++ map keyed (drop l.pair-index l.pairs) ≡ map keyed l.pairs
