use Rattle.std.proofs.Common.{◌≡◌, ◌++◌, drop}
use Rattle.std.specs.List.{flat_map}
use Rattle.feed_openurl.specs.Citations.{pair_offers}
use Rattle.feed_openurl.proofs.offer.offers_of.Given as goal

-- the offers so far, and those of the pairs that are left, are all of them
abbrev pub invariant-loop-pair : goal.invariant-loop-pair
invariant-loop-pair l = l.offers.items ++ flat_map pair_offers (drop l.pair-index l.pairs) ≡ flat_map pair_offers l.pairs
