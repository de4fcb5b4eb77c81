use Rattle.std.proofs.Common.{[]}
use Rattle.std.specs.Prelude.{fold}
use Rattle.std.specs.BTreeSet.{insert_key}
use Rattle.feed_openurl.proofs.Steps.{fold_next}
use Rattle.feed_openurl.proofs.sets.set_of.Goals as goal

pub loop-identifier-preserved : goal.loop-identifier-preserved
loop-identifier-preserved g c =
    fold_next (insert_key g.T.Ord.cmp) c.args.identifiers.now c.loop-identifier.identifier-index c.identifier-item.result c.loop-identifier.set.keys
    c.insert.new.self.keys (fold (insert_key g.T.Ord.cmp) [] c.args.identifiers.now) c.loop-identifier-test.true c.identifier-item.is
    c.in_ok-insert.ensures.keys c.loop-identifier.invariant
