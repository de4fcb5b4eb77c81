use Rattle.std.proofs.Common.{◌≡◌, take}
use Rattle.feed_parts.specs.Shown.{shown_parts}
use Rattle.feed_parts.proofs.part.copy_parts.Given as goal

abbrev pub invariant-loop-part : goal.invariant-loop-part
invariant-loop-part l = shown_parts l.copy.items ≡ shown_parts (take l.part-index l.parts)
