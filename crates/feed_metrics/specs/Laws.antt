-- Laws of the text format.
use Rattle.std.specs.Prelude.{◌≡◌, ◌∷◌, ◌++◌, ℕ, List, Some, true, false}
use Rattle.std.specs.List.{flat_map, list_all}
use Rattle.feed_metrics.specs.Labels.{label_text, read_label}
use Rattle.feed_metrics.specs.Exposition.{Line, line_text}
use Rattle.feed_metrics.specs.ExpositionReader.{is_line, read_text}

-- reading the value of a label up to its quote returns the value, and what follows
abbrev pub LabelReadsBack : Type 0
LabelReadsBack = (text rest : List ℕ) → read_label false (label_text text ++ 34 ∷ rest) ≡ Some (text, rest)

-- a reader of the format reads from the text of lines these lines, in order, and nothing else
abbrev pub LinesReadBack : Type 0
LinesReadBack = (lines : List Line) → list_all is_line lines ≡ true → read_text (flat_map line_text lines) ≡ Some lines
