use Rattle.std.proofs.Common.{rules}
use Rattle.node_file_checks.proofs.PartChecks.{gate_decides, sum_differs}
use Rattle.node_file_checks.proofs.file_check.FileCheck.part_mismatch.Goals as goal

pub returns-in-Some-sum_mismatch-clause-mismatch : goal.returns-in-Some-sum_mismatch-clause-mismatch
returns-in-Some-sum_mismatch-clause-mismatch g c h seen content received =
    sum_differs h c.args.name.now.package_name c.args.self.now seen c.args.part.now.first c.args.part.now.bytes.now c.args.part.now.length c.in-Some-sum_mismatch.mismatch
    (search rules) (c.in-Some-sum_mismatch.ensures.mismatch seen received.sum)

pub returns-clause-mismatch : goal.returns-clause-mismatch
returns-clause-mismatch g c h seen content received =
    gate_decides h c.args.name.now.package_name c.args.self.now seen c.args.part.now.first c.args.part.now.bytes.now c.args.part.now.length c.gate_mismatch.result
    (search rules) (search rules) (c.gate_mismatch.ensures.mismatch h seen content received.rows)

pub returns-clause-received : goal.returns-clause-received
returns-clause-received g c seen received done = record {
  sum = λ wanted is. c.sum_mismatch.ensures.seen wanted seen is (received.sum wanted is) (search rules);
  rows = c.gate_mismatch.ensures.received seen received.rows done;
}

pub returns-clause-sum : goal.returns-clause-sum
returns-clause-sum g c wanted seen is have done = c.sum_mismatch.ensures.allowed wanted seen is have (search rules)
