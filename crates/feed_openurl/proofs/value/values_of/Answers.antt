use Rattle.std.proofs.Common.{◌∙◌, ◌++◌, ◌∷◌, [], ap, map}
use Rattle.feed_openurl.specs.Keys.{keyed}
use Rattle.feed_openurl.proofs.Steps.{mapped_next}
use Rattle.feed_openurl.proofs.value.values_of.Goals as goal

pub loop-pair-preserved : goal.loop-pair-preserved
loop-pair-preserved c =
    mapped_next keyed c.args.pairs.now c.loop-pair.pair-index c.pair-item.result c.loop-pair.values.items c.push.new.self.items (map keyed c.args.pairs.now)
    c.loop-pair-test.true c.pair-item.is
    (c.in_ok-push.ensures.items ∙ ap (λ value. c.loop-pair.values.items ++ value ∷ []) c.value_of.ensures)
    c.loop-pair.invariant
