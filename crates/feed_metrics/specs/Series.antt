-- The series of a name, as a reader of the metrics finds them, and the names of families.
use Rattle.std.specs.Prelude.{ℕ, ◌-◌, ◌&&◌, ◌||◌, not, Bool, true, false, if◌then◌else◌, List, [], ◌∷◌, codes, drop, length}
use Rattle.std.specs.List.{flat_map, list_all, list_any}
use Rattle.std.specs.Str.{bytes_eq}
use Rattle.feed_metrics.specs.Exposition.{Line, Help, Kind, Value}
use Rattle.feed_metrics.specs.Rows.{FamilyRow, SampleRow, kind_name}

-- the same labels in the same order
abbrev pub are_same : List (List ℕ × List ℕ) → List (List ℕ × List ℕ) → Bool
are_same [] [] = true
are_same [] (y ∷ ys) = false
are_same (x ∷ xs) [] = false
are_same (x ∷ xs) (y ∷ ys) = (bytes_eq x.0 y.0 && bytes_eq x.1 y.1) && are_same xs ys

-- the values of the samples of a name with these labels
abbrev pub line_values : List ℕ → List (List ℕ × List ℕ) → Line → List (List ℕ)
line_values name labels (Help family text) = []
line_values name labels (Kind family kind) = []
line_values name labels (Value other has value) = if bytes_eq other name && are_same has labels then value ∷ [] else []

abbrev pub values_of : List ℕ → List (List ℕ × List ℕ) → List Line → List (List ℕ)
values_of name labels lines = flat_map (line_values name labels) lines

-- ---- the rows of a table

-- the last bytes of a text
abbrev pub has_end : List ℕ → List ℕ → Bool
has_end end text = bytes_eq (drop (length text - length end) text) end

-- the names of counters end in `_total`, and no others do; only samples of a histogram have names longer than their family's
abbrev pub is_usual : {L S : Type 0} → FamilyRow L S → Bool
is_usual row =
    if bytes_eq (kind_name row.kind) (codes "counter") then has_end (codes "_total") row.name else not (has_end (codes "_total") row.name)

abbrev pub has_own_samples : {L S : Type 0} → FamilyRow L S → Bool
has_own_samples {L} {S} row =
    bytes_eq (kind_name row.kind) (codes "histogram") || list_all (λ (sample : SampleRow L S). bytes_eq sample.suffix []) row.samples

-- no name is the same as a later one
abbrev pub are_apart : {L S : Type 0} → List (FamilyRow L S) → Bool
are_apart [] = true
are_apart {L} {S} (row ∷ rows) = not (list_any (λ (other : FamilyRow L S). bytes_eq other.name row.name) rows) && are_apart rows
