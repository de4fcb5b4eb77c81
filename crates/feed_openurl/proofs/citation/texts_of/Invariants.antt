use Rattle.std.proofs.Common.{◌≡◌, ◌++◌, drop, map}
use Rattle.feed_openurl.specs.Citations.{part_text}
use Rattle.feed_openurl.proofs.citation.texts_of.Given as goal

-- the texts so far, with those of the parts that are left, are all of them
abbrev pub invariant-loop-part : goal.invariant-loop-part
invariant-loop-part l = l.texts.items ++ map (part_text l.offers) (drop l.part-index l.parts) ≡ map (part_text l.offers) l.parts
