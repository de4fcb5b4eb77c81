use Rattle.std.specs.List.{flat_map}
use Rattle.feed_openurl.specs.Citations.{pair_offers}
use Rattle.feed_openurl.proofs.Steps.{flat_next}
use Rattle.feed_openurl.proofs.offer.offers_of.Goals as goal

pub loop-pair-preserved : goal.loop-pair-preserved
loop-pair-preserved c =
    flat_next pair_offers c.args.pairs.now c.loop-pair.pair-index c.pair-item.result c.loop-pair.offers.items c.push_pair.new.offers.items
    (flat_map pair_offers c.args.pairs.now) c.loop-pair-test.true c.pair-item.is c.in_ok-push_pair.ensures c.loop-pair.invariant
