use Rattle.std.proofs.Common.{◌≡◌, ◌++◌, drop}
use Rattle.std.specs.List.{flat_map}
use Rattle.feed_xml.specs.Characters.{allowed}
use Rattle.feed_xml.specs.Marks.{escape_byte}
use Rattle.feed_xml.proofs.TextsWritten.{with_rest}
use Rattle.feed_xml.proofs.characters.put_text.Given as goal

-- what is written, with what is left, is the whole
abbrev pub invariant-loop-byte : goal.invariant-loop-byte
invariant-loop-byte l = with_rest l.out.items l.place (drop l.byte-index l.text) ≡ l.fn.out.items ++ flat_map escape_byte (allowed l.text)
