use Rattle.std.proofs.Common.{sym, ◌∙◌}
use Rattle.node_table.proofs.Places.{order_adds}
use Rattle.node_table.proofs.table.Table.add_closable.Goals as goal

pub returns-clause-below : goal.returns-clause-below
returns-clause-below g c =
    order_adds c.args.self.now c.args.key _ _ _ _ (sym c.in-Some.ensures) (sym c.waits.ensures ∙ c.if-waits.false) c.closing_priority.ensures.priority
    c.closing_priority.ensures.elapsed c.in_ok-push.ensures.permutation c.requires.below
