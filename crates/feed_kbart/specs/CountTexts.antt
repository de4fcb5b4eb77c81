-- The text of counts.
use Rattle.std.specs.Prelude.{ℕ, List, ◌++◌, codes}
use Rattle.std.specs.Fmt.{decimal}

-- the number of rows, and that of skipped records
abbrev pub counts_text : ℕ → ℕ → List ℕ
counts_text rows skipped = codes "rows " ++ decimal rows ++ codes " aside " ++ decimal skipped
