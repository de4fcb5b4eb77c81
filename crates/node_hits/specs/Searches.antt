-- The scopes of a search: the rows that match a query, those that its date alone would have, or all others of its titles.
use Rattle.std.specs.Prelude.{ℕ, ◌&&◌, not, Bool, true, false, List, Option, Some, None, is_some, option_map, slice_get}
use Rattle.std.specs.Option.{option_and_then, option_map_or}
use Rattle.feed_kbart.specs.Identifiers.{kind}
use Rattle.feed_kbart.specs.RowValue.{RowValue}
use Rattle.feed_kbart.specs.declared.identifiers.Kind.{Kind}
use Rattle.feed_kbart.specs.declared.identifiers.Kind.TheVariants.{Serial, Book}
use Rattle.feed_answer.specs.Grades.{days_grade, grade_as, has_named, volume_grade}
use Rattle.feed_answer.specs.HitValue.{HitValue}
use Rattle.feed_answer.specs.QueryValue.{QueryValue}
use Rattle.node_links.specs.Requests.{CitedTitleValue}
use Rattle.feed_answer.specs.declared.grade.Grade.{Grade}
use Rattle.feed_answer.specs.declared.grade.Grade.TheVariants.{Inside, Overlap, Untested}
use Rattle.node_hits.specs.declared.search.Scope.{Scope}
use Rattle.node_hits.specs.declared.search.Scope.TheVariants.{Hits, Dated, Others}

-- a query, which rows of its titles are searched for, whether a book that it names comes before a serial, and what it cites
pub record SearchValue : Type 0 where
  pub query : QueryValue
  pub scope : Scope
  pub is_book_first : Bool
  pub cited : CitedTitleValue

-- the same query in another scope
abbrev pub in_scope : Scope → SearchValue → SearchValue
in_scope scope search = record search { scope = scope }

-- a query without its volume, and one without its date too, which asks for the whole titles
abbrev pub without_volume : QueryValue → QueryValue
without_volume query = record { issns = query.issns; isbns = query.isbns; days = query.days; volume = None }

abbrev pub whole_titles : QueryValue → QueryValue
whole_titles query = record { issns = query.issns; isbns = query.isbns; days = None; volume = None }

-- the query that rows are compared with
abbrev pub compared_as : Scope → QueryValue → QueryValue
compared_as Hits query = query
compared_as Dated query = without_volume query
compared_as Others query = whole_titles query

abbrev pub compared : SearchValue → QueryValue
compared search = compared_as search.scope search.query

-- the row at a place has one of the identifiers of a query, if there is a row
abbrev pub is_asked_at : QueryValue → List RowValue → ℕ → Bool
is_asked_at query rows place = option_map_or (has_named query) (slice_get rows place) true

-- the grade of a row that has one of the identifiers, if it matches
abbrev pub asked_grade : QueryValue → RowValue → Option Grade
asked_grade query row = grade_as (kind row.identifiers) query row

-- such a row with its grade, and the row at a place
abbrev pub asked_hit_by : QueryValue → RowValue → Option HitValue
asked_hit_by query row = option_map (λ grade. record { row = row; grade = grade }) (asked_grade query row)

abbrev pub asked_hit_at : QueryValue → List RowValue → ℕ → Option HitValue
asked_hit_at query rows place = option_and_then (asked_hit_by query) (slice_get rows place)

-- days were compared, and some are covered
abbrev pub is_covered : Option Grade → Bool
is_covered (Some Inside) = true
is_covered (Some Overlap) = true
is_covered (Some Untested) = false
is_covered None = false

-- the row covers days that the query asks for, and does not have its volume; a book is compared with neither
abbrev pub is_dated_as : Kind → QueryValue → RowValue → Bool
is_dated_as Serial query row =
    is_covered (days_grade row.first_day row.last_day query.days) && not (is_some (volume_grade row.first_volume row.last_volume query.volume))
is_dated_as Book query row = false

abbrev pub is_dated : QueryValue → RowValue → Bool
is_dated query row = is_dated_as (kind row.identifiers) query row

-- a row of this kind comes before others
abbrev pub is_first_as : Kind → Bool → Bool
is_first_as Serial is_book_first = false
is_first_as Book is_book_first = is_book_first
