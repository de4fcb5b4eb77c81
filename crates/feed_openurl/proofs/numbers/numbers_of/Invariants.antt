use Rattle.std.proofs.Common.{◌≡◌, ◌++◌, drop}
use Rattle.std.specs.List.{flat_map}
use Rattle.feed_openurl.specs.Identifiers.{numbers_of_pair}
use Rattle.feed_openurl.proofs.numbers.numbers_of.Given as goal

-- the numbers so far, with those of the pairs that are left, are all of them
abbrev pub invariant-loop-pair : goal.invariant-loop-pair
invariant-loop-pair l = l.numbers.items ++ flat_map numbers_of_pair (drop l.pair-index l.pairs) ≡ flat_map numbers_of_pair l.pairs
