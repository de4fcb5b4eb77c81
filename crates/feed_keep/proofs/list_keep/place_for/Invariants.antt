use Rattle.std.proofs.Common.{◌≡◌, ◌<◌, ℕ, true, get_or}
use Rattle.feed_model.specs.Change.{comes_before}
use Rattle.feed_keep.specs.declared.record.Record.{Record}
use Rattle.feed_keep.proofs.list_keep.place_for.Given as goal

abbrev pub invariant-loop-at : goal.invariant-loop-at
invariant-loop-at l = (k : ℕ) (d : Record) → k < l.at → comes_before (get_or l.records k d).name l.name ≡ true
