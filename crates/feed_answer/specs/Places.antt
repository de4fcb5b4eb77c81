-- The places of the rows that have a query's identifiers.
use Rattle.std.specs.Prelude.{ℕ, List, Option}
use Rattle.std.specs.Option.{option_and_then}
use Rattle.std.specs.List.{flat_map, slice_get}
use Rattle.feed_kbart.specs.Places.{places_having}
use Rattle.feed_kbart.specs.RowValue.{RowValue}
use Rattle.feed_answer.specs.Answers.{hit_by}
use Rattle.feed_answer.specs.HitValue.{HitValue}
use Rattle.feed_answer.specs.QueryValue.{QueryValue, asked}
use Rattle.feed_answer.specs.declared.row_places.RowPlaces.{RowPlaces}
use Rattle.feed_answer.specs.declared.row_places.RowPlaces.TheVariants.{Indexed, Merged}

-- the places of the rows that have one of a query's identifiers, identifier by identifier
abbrev pub places_among : QueryValue → List RowValue → List ℕ
places_among query rows = flat_map (λ one. places_having one rows) (asked query)

-- the places that a value has
abbrev pub listed : RowPlaces → List ℕ
listed (Indexed places) = places.now
listed (Merged places) = places.items

-- the row at a place with its grade, if the row exists and matches
abbrev pub hit_at : QueryValue → List RowValue → ℕ → Option HitValue
hit_at query rows place = option_and_then (hit_by query) (slice_get rows place)
