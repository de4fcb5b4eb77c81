use Rattle.std.proofs.Common.{arith}
use Rattle.node_table.proofs.Places.{order_whole}
use Rattle.node_table.proofs.table.Table.closing_order.Goals as goal

pub returns-clause-order : goal.returns-clause-order
returns-clause-order g c = order_whole c.args.self.now c.loop-key.key _ (omega (arith, c.capacity-key-end.ensures.slots)) c.loop-key.invariant.1
