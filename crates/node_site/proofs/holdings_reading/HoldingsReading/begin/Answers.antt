use Rattle.std.proofs.Common.{List, ℕ, subst}
use Rattle.node_site.specs.HoldingsIndex.{IsHeadFault}
use Rattle.node_site.proofs.HoldingsRead.{head_fault_is}
use Rattle.node_site.proofs.holdings_reading.HoldingsReading.begin.Goals as goal

pub returns-in-Err-clause-refused : goal.returns-in-Err-clause-refused
returns-in-Err-clause-refused c =
    head_fault_is c.args.bytes.items c.in-Err.fault
    (subst (λ (text : List ℕ). IsHeadFault text c.in-Err.fault) c.deref.ensures.value c.in-Err.ensures.refused)
