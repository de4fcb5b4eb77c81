use Rattle.std.proofs.Common.{ℕ, List, length}
use Rattle.feed_kbart.specs.ListTexts.{IsTextOf}
use Rattle.feed_kbart.proofs.list_text.ListText.add.Given as goal

abbrev pub invariant-loop-alloc : goal.invariant-loop-alloc
invariant-loop-alloc g l = (text : List ℕ) → IsTextOf g.K.KeepRows.keeps text l.initial.self → IsTextOf g.K.KeepRows.keeps text l.self

abbrev pub decreases-loop-alloc : goal.decreases-loop-alloc
decreases-loop-alloc g l = length l.self.held.items
