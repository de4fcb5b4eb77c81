use Rattle.std.proofs.Common.{sym, subst, ◌∙◌}
use Rattle.feed_releases.specs.Actives.{AreInOrder}
use Rattle.feed_releases.proofs.Inserting.{order_inserted}
use Rattle.feed_releases.proofs.actives.add.Goals as goal

pub returns-clause-order : goal.returns-clause-order
returns-clause-order c =
    subst AreInOrder (sym (c.in_ok-insert.ensures.items ∙ (rw c.deref.ensures.value at c.place_for-place.ensures.place)))
    (order_inserted c.args.active c.args.actives.now.items c.requires)
