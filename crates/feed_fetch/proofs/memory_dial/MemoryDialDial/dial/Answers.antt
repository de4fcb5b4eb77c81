use Rattle.std.proofs.Common.{ℕ, List, sym, subst}
use Rattle.feed_fetch.specs.Servers.{IsServed}
use Rattle.feed_fetch.specs.MemoryConns.{IsServed-nothing}
use Rattle.feed_fetch.proofs.memory_dial.MemoryDialDial.dial.Goals as goal

pub invariant_of-result-clause-replied : goal.invariant_of-result-clause-replied
invariant_of-result-clause-replied g c unread =
    subst (λ (written : List ℕ). IsServed g.A.Archive.files written c.new-2.result.items) (sym c.new.ensures.items)
    (IsServed-nothing g.A.Archive.files c.new-2.result.items)
