use Rattle.node_table.specs.declared.log.CloseCause.TheVariants.{Evicted}
use Rattle.std.proofs.Common.{subst, sym}
use Rattle.node_table.specs.Places.{IsOrder}
use Rattle.node_table.proofs.Places.{eviction_after, order_after}
use Rattle.node_table.proofs.table.Table.evict_next.Goals as goal

pub returns-in-Some-clause-order : goal.returns-in-Some-clause-order
returns-in-Some-clause-order g c =
    order_after g.L.Log.records Evicted c.args.now c.args.self.now c.remove.new.self c.args.log.now c.remove.new.log _ _ _
    c.in-Some.ensures.permutation c.requires.order c.remove.ensures.removed c.remove.ensures.absent

pub returns-in-Some-clause-evicted : goal.returns-in-Some-clause-evicted
returns-in-Some-clause-evicted g c =
    eviction_after g.L.Log.records c.args.now c.args.self.now c.remove.new.self c.args.log.now c.remove.new.log _ _ _
    c.in-Some.ensures.permutation (c.in-Some.ensures.heap_order c.requires.heap).1 c.requires.order c.remove.ensures.removed c.remove.ensures.absent

pub returns-in_default-clause-order : goal.returns-in_default-clause-order
returns-in_default-clause-order g c = subst (λ entries. IsOrder c.args.self.now entries) (sym c.in_default.ensures.unchanged.0) c.requires.order
