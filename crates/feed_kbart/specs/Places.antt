-- The places of the rows that have an identifier.
use Rattle.std.specs.Prelude.{ℕ, ◌||◌, Bool, false, List, Option, Some, None, if◌then◌else◌}
use Rattle.std.specs.List.{enumerate_from, filter_map}
use Rattle.feed_identifiers.specs.Identifier.{identifier_eq}
use Rattle.feed_identifiers.specs.declared.identifier.Identifier.{Identifier}
use Rattle.feed_identifiers.specs.declared.identifier.Identifier.TheVariants.{Issn, Isbn}
use Rattle.feed_kbart.specs.RowValue.{RowValue}

-- whether a column's identifier is this one
abbrev pub is_same_identifier : Identifier → Option Identifier → Bool
is_same_identifier one None = false
is_same_identifier one (Some own) = identifier_eq one own

-- whether a row has this identifier, in print or online
abbrev pub has_identifier : Identifier → RowValue → Bool
has_identifier one row = is_same_identifier one row.identifiers.print || is_same_identifier one row.identifiers.online

-- the place of a row that passes a test
abbrev pub place_by : (RowValue → Bool) → ℕ × RowValue → Option ℕ
place_by test placed = if test placed.1 then Some placed.0 else None

-- the places of the rows that pass a test, counted from 0, in file order
unfoldable pub places_by : (RowValue → Bool) → List RowValue → List ℕ
places_by test rows = filter_map (place_by test) (enumerate_from 0 rows)

-- the places of the rows that have this identifier
abbrev pub places_having : Identifier → List RowValue → List ℕ
places_having one rows = places_by (has_identifier one) rows

-- the places of the rows that have this ISSN
abbrev pub places_with : List ℕ → List RowValue → List ℕ
places_with issn rows = places_having (Issn issn) rows

-- the places of the rows that have this ISBN
abbrev pub places_with_isbn : List ℕ → List RowValue → List ℕ
places_with_isbn isbn rows = places_having (Isbn isbn) rows
