-- The index of rows by identifier.
use Rattle.std.specs.Prelude.{◌≡◌, ℕ, ◌+◌, ◌==◌, List, [], ◌∷◌, ◌++◌, length, map, Option, Some, None, if◌then◌else◌, sum_by}
use Rattle.std.specs.List.{All}
use Rattle.std.specs.List.Sorted.{IsNonDecreasing}
use Rattle.feed_identifiers.specs.Identifier.{IsIdentifier, key_of}
use Rattle.feed_identifiers.specs.declared.identifier.Identifier.{Identifier}
use Rattle.feed_kbart.specs.Identifiers.{AreIdentifiers, numbers}
use Rattle.feed_kbart.specs.Places.{places_having}
use Rattle.feed_kbart.specs.RowValue.{RowValue}
use Rattle.feed_kbart.specs.Runs.{weight_of}
use Rattle.feed_kbart.specs.declared.entry.Entry.{Entry}
use Rattle.feed_kbart.specs.declared.identifiers.Identifiers.{Identifiers}
use Rattle.feed_kbart.specs.declared.index.Index.{Index}
use Rattle.feed_kbart.specs.declared.index_builder.IndexBuilder.{IndexBuilder}

-- the places paired with a number
abbrev pub places_beside : ℕ → List ℕ → List ℕ → List ℕ
places_beside number [] places = []
places_beside number (one ∷ numbers) [] = []
places_beside number (one ∷ numbers) (place ∷ places) =
    if one == number then place ∷ places_beside number numbers places else places_beside number numbers places

-- each number is paired with a place, and the numbers ascend
pub record IsTable (index : Index) : Type 0 where
  pub even : length index.places.items ≡ length index.numbers.items
  pub ascending : IsNonDecreasing index.numbers.items

-- an index of rows: the number of an identifier is paired with the places of the rows that have it
pub record IsIndexOf (rows : List RowValue) (index : Index) : Type 0 where
  pub table : IsTable index
  pub places : (one : Identifier) → IsIdentifier one → places_beside (key_of one) index.numbers.items index.places.items ≡ places_having one rows

-- the identifiers of a row are in printed form
abbrev pub HasIdentifiers : RowValue → Type 0
HasIdentifiers row = AreIdentifiers row.identifiers

-- the numbers present, each once
abbrev pub each_once : Option ℕ → Option ℕ → List ℕ
each_once None None = []
each_once (Some number) None = number ∷ []
each_once None (Some number) = number ∷ []
each_once (Some first) (Some second) = if first == second then first ∷ [] else first ∷ second ∷ []

-- the entries of the row at a place: one for each of its identifiers
abbrev pub entries_of : ℕ → Identifiers → List Entry
entries_of place own = map (λ number. record { number = number; place = place }) (each_once (numbers own).0 (numbers own).1)

-- the entries of rows, the first of them at this place
abbrev pub entries_from : ℕ → List RowValue → List Entry
entries_from place [] = []
entries_from place (row ∷ rows) = entries_of place row.identifiers ++ entries_from (place + 1) rows

-- an index that is being built has the entries of the rows, some in runs and the others in none
pub record AreIndexed (rows : List RowValue) (builder : IndexBuilder) : Type 0 where
  pub next : builder.next ≡ length rows
  pub same : (weight : Entry → ℕ)
      → weight_of weight builder.runs + sum_by weight builder.recent.items ≡ sum_by weight (entries_from 0 rows)
  pub printed : All HasIdentifiers rows
