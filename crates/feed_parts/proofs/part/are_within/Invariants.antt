use Rattle.std.proofs.Common.{drop}
use Rattle.feed_parts.specs.Shown.{shown_parts}
use Rattle.feed_parts.proofs.Checked.{IsChecked}
use Rattle.feed_parts.proofs.part.are_within.Given as goal

abbrev pub invariant-loop-part : goal.invariant-loop-part
invariant-loop-part l = IsChecked l.size (shown_parts l.parts) l.place (shown_parts (drop l.part-index l.parts))
