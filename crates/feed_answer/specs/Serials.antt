-- The meaning of lists and queries in the versions that had serials only. Their answers on serials have not changed.
use Rattle.std.specs.Prelude.{◌≡◌, ◌&&◌, ◌||◌, nat_lt, ℕ, Bool, true, false, List, [], ◌∷◌, length, Option, Some, None, Ok, if◌then◌else◌, is_none, option_map, codes}
use Rattle.std.specs.List.{enumerate_from, filter, filter_map, list_any}
use Rattle.std.specs.Str.{str_eq_ignore_ascii_case}
use Rattle.form_urlencoded.specs.Form as form
use Rattle.feed_dates.specs.declared.day_range.DayRange.{DayRange}
use Rattle.feed_bytes.specs.Trim.{trimmed}
use Rattle.feed_kbart.specs.Columns.{columns_of, field_of}
use Rattle.feed_kbart.specs.Coverage as coverage
use Rattle.feed_kbart.specs.Coverage.{coverage_as, reason_as}
use Rattle.feed_kbart.specs.Files.{holdings_of}
use Rattle.feed_kbart.specs.Identifiers.{kind, online_issn, print_issn}
use Rattle.feed_text.specs.Records.{records_of}
use Rattle.feed_kbart.specs.Rows.{texts_of}
use Rattle.feed_kbart.specs.RowValue.{RowValue, row_with}
use Rattle.feed_kbart.specs.declared.identifiers.Kind.{Kind}
use Rattle.feed_kbart.specs.declared.identifiers.Kind.TheVariants.{Serial, Book}
use Rattle.feed_kbart.specs.declared.label.Label.TheVariants.{PublicationType}
use Rattle.feed_answer.specs.Answers.{answer_of}
use Rattle.feed_answer.specs.Grades.{both_grades, days_grade, volume_grade}
use Rattle.feed_answer.specs.HitValue.{HitValue}
use Rattle.feed_answer.specs.IdentifierSet.{is_among}
use Rattle.feed_answer.specs.Limits.{query_limit}
use Rattle.feed_answer.specs.Pairs.{first_days, first_volume, is_empty, is_other, is_other_version, issns_among, journal_format}
use Rattle.feed_answer.specs.Queries.{query_of}
use Rattle.feed_answer.specs.QueryValue.{QueryValue}

-- the publication type is empty or `serial`; records of any other type were skipped
abbrev pub is_serial_type : List ℕ → Bool
is_serial_type text = coverage.is_empty (trimmed text) || str_eq_ignore_ascii_case (trimmed text) (codes "serial")

-- the row of a numbered record under a header, unless it was skipped
abbrev pub serial_row_at : List (List ℕ) → ℕ × List (List ℕ) → Option RowValue
serial_row_at header numbered =
    if is_serial_type (field_of (columns_of header) PublicationType numbered.1) && is_none (reason_as Serial (columns_of header) numbered.1)
    then Some (row_with numbered.0 (coverage_as Serial (columns_of header) numbered.1) (texts_of (columns_of header) numbered.1)) else None

-- the rows of records after the header, which is the first
abbrev pub serial_rows_in : List (List (List ℕ)) → List RowValue
serial_rows_in [] = []
serial_rows_in (header ∷ records) = filter_map (serial_row_at header) (enumerate_from 2 records)

-- a query for serials
pub record SerialQuery : Type 0 where
  pub issns : List (List ℕ)
  pub days : Option DayRange
  pub volume : Option ℕ

-- the format is another than that of journals
abbrev pub is_other_than_journal : List ℕ × List ℕ → Bool
is_other_than_journal pair = is_other (codes "rft_val_fmt") journal_format pair

-- the query that pairs make, unless it was rejected
abbrev pub serial_query_by : List (List ℕ × List ℕ) → Option SerialQuery
serial_query_by pairs =
    if list_any is_other_version pairs || (list_any is_other_than_journal pairs || is_empty (issns_among pairs)) then None
    else Some (record { issns = issns_among pairs; days = first_days pairs; volume = first_volume pairs })

-- the query of a text, unless it was rejected
unfoldable pub serial_query_of : List ℕ → Option SerialQuery
serial_query_of text = if nat_lt query_limit (length text) then None else serial_query_by (form.parse text)

-- an ISSN is among those of a query
abbrev pub is_listed : Option (List ℕ) → List (List ℕ) → Bool
is_listed None issns = false
is_listed (Some issn) issns = is_among issn issns

-- a row with its grade, if it matched
abbrev pub serial_hit_by : SerialQuery → RowValue → Option HitValue
serial_hit_by query row = option_map (λ grade. record { row = row; grade = grade }) (
    if is_listed (print_issn row.identifiers) query.issns || is_listed (online_issn row.identifiers) query.issns
    then both_grades (days_grade row.first_day row.last_day query.days) (volume_grade row.first_volume row.last_volume query.volume)
    else None
    )

-- the answer of a text to a query
unfoldable pub serial_answer_of : List ℕ → SerialQuery → List HitValue
serial_answer_of text query = filter_map (serial_hit_by query) (serial_rows_in (records_of text))

-- a row is a serial's
abbrev pub is_serial : Kind → Bool
is_serial Serial = true
is_serial Book = false

-- a hit is on a serial's row
abbrev pub is_serial_hit : HitValue → Bool
is_serial_hit hit = is_serial (kind hit.row.identifiers)

-- every query that was accepted is still accepted, and in every list its hits on serials and their grades are the same
abbrev pub SerialAnswersAreUnchanged : Type 0
SerialAnswersAreUnchanged =
    (text query : List ℕ) (old : SerialQuery) → serial_query_of query ≡ Some old
    → (new : QueryValue) × (query_of query ≡ Ok new) × (filter is_serial_hit (answer_of (holdings_of text) new) ≡ serial_answer_of text old)
