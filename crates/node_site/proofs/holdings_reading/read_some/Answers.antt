use Rattle.std.proofs.Common.{arith}
use Rattle.node_site.proofs.HoldingsSteps.{fault_behind, more_rows}
use Rattle.node_site.proofs.holdings_reading.read_some.Goals as goal

pub returns-in-Err-clause-refused : goal.returns-in-Err-clause-refused
returns-in-Err-clause-refused c =
    fault_behind c.args.text.now c.args.place c.args.runs.items c.in-Err.fault c.requires.headed c.requires.rows c.in-Err.ensures.refused

pub returns-in-Ok-push-clause-is : goal.returns-in-Ok-push-clause-is
returns-in-Ok-push-clause-is c =
    rw c.in-Ok-push.ensures.items
    (more_rows c.args.text.now c.args.place c.min-to.result c.args.runs.items c.in-Ok.run' (omega arith) c.requires.rows c.in-Ok.ensures.run)
