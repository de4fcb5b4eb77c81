-- A good file.
use Rattle.std.specs.Prelude.{ℕ, List, [], ◌∷◌, ◌++◌, map}
use Rattle.std.specs.List.{join_with_byte}
use Rattle.feed_kbart.specs.Labels.{label_text, required_labels}

-- a header with exactly the labels that a file must have, joined by tabs, and no record
abbrev pub header_alone : List ℕ
header_alone = join_with_byte 9 (map label_text required_labels) ++ 10 ∷ []
