use Rattle.std.specs.List.{flat_map}
use Rattle.feed_openurl.specs.Identifiers.{numbers_of_pair}
use Rattle.feed_openurl.proofs.Steps.{flat_next}
use Rattle.feed_openurl.proofs.numbers.numbers_of.Goals as goal

pub loop-pair-preserved : goal.loop-pair-preserved
loop-pair-preserved c =
    flat_next numbers_of_pair c.args.pairs.now c.loop-pair.pair-index c.pair-item.result c.loop-pair.numbers.items c.push_pair.new.numbers.items
    (flat_map numbers_of_pair c.args.pairs.now) c.loop-pair-test.true c.pair-item.is c.in_ok-push_pair.ensures c.loop-pair.invariant
