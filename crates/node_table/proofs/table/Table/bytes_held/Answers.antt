use Rattle.std.proofs.Common.{arith}
use Rattle.node_table.proofs.table.Table.bytes_held.Goals as goal

pub returns-clause-bounded : goal.returns-clause-bounded
returns-clause-bounded g c = λ longest most. omega (arith, c.args.self.now.bounded longest most, c.args.self.now.counted)
