use Rattle.node_table.proofs.table.Table.new.Goals as goal

pub invariant_of-result-clause-known : goal.invariant_of-result-clause-known
invariant_of-result-clause-known g c = λ key ready. absurd (c.in_ok-ready.ensures.ready key ready)
