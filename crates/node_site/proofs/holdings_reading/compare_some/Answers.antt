use Rattle.std.proofs.Common.{List, arith, subst, sym}
use Rattle.node_site.specs.declared.entry.Entry.{Entry}
use Rattle.node_site.specs.HoldingsEntries.{AreHashed}
use Rattle.node_site.specs.HoldingsIndex.{IsClash}
use Rattle.node_site.proofs.HoldingsOrder.{hashed}
use Rattle.node_site.proofs.HoldingsRead.{clash_fault}
use Rattle.node_site.proofs.HoldingsSteps.{all_compared}
use Rattle.node_site.proofs.holdings_reading.compare_some.Goals as goal

pub returns-then-index-len-clause-is : goal.returns-then-index-len-clause-is
returns-then-index-len-clause-is c =
    all_compared c.args.text.now c.args.entries.items c.args.index c.args.on c.requires.headed (omega arith) c.requires.compared

pub clash_in-requires-clause-hashed : goal.clash_in-requires-clause-hashed
clash_in-requires-clause-hashed c =
    subst (AreHashed c.args.text.now) (sym c.deref.ensures.value) (hashed c.args.text.now c.args.entries.items c.requires.compared.same)

pub returns-in-Some-clause-refused : goal.returns-in-Some-clause-refused
returns-in-Some-clause-refused c =
    clash_fault c.args.text.now c.args.entries.items c.in-Some.fault c.requires.headed c.requires.compared.fine c.requires.compared.same
    (subst (λ (entries : List Entry). IsClash c.args.text.now entries c.in-Some.fault) c.deref.ensures.value c.in-Some.ensures.some)
