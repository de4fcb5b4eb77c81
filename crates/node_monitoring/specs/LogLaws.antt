-- Laws of the lines of a log.
use Rattle.std.specs.Prelude.{◌≡◌, ◌==◌, ℕ, List, Some, true, All}
use Rattle.std.specs.List.{slice_split}
use Rattle.node_monitoring.specs.LogEscapes.{escaped, is_visible, unescaped}
use Rattle.node_monitoring.specs.LogLines.{EntryValue, IsByte, IsEntry, line_text, parts_of}

-- an escaped text has visible ASCII and spaces alone, and no quote
abbrev pub EscapedIsVisible : Type 0
EscapedIsVisible = (text : List ℕ) → All IsByte text → All (λ b. is_visible b ≡ true) (escaped text)

-- decoding an escaped text returns the text
abbrev pub EscapedReadsBack : Type 0
EscapedReadsBack = (text : List ℕ) → All IsByte text → unescaped (escaped text) ≡ Some text

-- a reader that splits a line at its quotes gets the seven parts
abbrev pub LineSplits : Type 0
LineSplits = (e : EntryValue) → IsEntry e → slice_split (λ b. b == 34) (line_text e) ≡ parts_of e
