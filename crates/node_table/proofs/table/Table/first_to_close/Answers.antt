use Rattle.std.proofs.Common.{arith}
use Rattle.node_table.proofs.Firsts.{first_found, none_found}
use Rattle.node_table.proofs.table.Table.first_to_close.Goals as goal

pub returns-clause-first : goal.returns-clause-first
returns-clause-first g c = first_found c.args.shortage c.args.self.now c.loop-key.key c.loop-key.first (omega (arith, c.capacity-key-end.ensures.slots)) c.loop-key.invariant

pub returns-clause-none : goal.returns-clause-none
returns-clause-none g c = none_found c.args.shortage c.args.self.now c.loop-key.key c.loop-key.first (omega (arith, c.capacity-key-end.ensures.slots)) c.loop-key.invariant
