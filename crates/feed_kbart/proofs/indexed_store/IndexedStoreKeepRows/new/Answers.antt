use Rattle.std.proofs.Common.{[]}
use Rattle.feed_kbart.proofs.indexed_store.IndexedStoreKeepRows.new.Goals as goal

pub invariant_of-result : goal.invariant_of-result
invariant_of-result c = record { held = λ whole. ∣ ([], c.new.ensures, λ few. c.new-2.ensures) ∣₁ }

pub returns : goal.returns
returns c = (c.new.ensures, λ few. c.new-2.ensures)
