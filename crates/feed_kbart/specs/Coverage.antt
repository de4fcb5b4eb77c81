-- The identifiers, days and volumes that a record covers, and the reasons to skip a record.
use Rattle.std.specs.Prelude.{◌||◌, ◌&&◌, not, nat_lt, ℕ, ℤ, Bool, true, false, List, [], ◌∷◌, Option, Some, None, if◌then◌else◌, is_some, option_map, unwrap_or, codes, int_lt}
use Rattle.std.specs.Str.{str_eq_ignore_ascii_case}
use Rattle.feed_bytes.specs.Trim.{trimmed}
use Rattle.feed_kbart.specs.Volumes.{volume_of}
use Rattle.feed_dates.specs.DayRanges.{days_of}
use Rattle.feed_kbart.specs.Columns.{field_of}
use Rattle.feed_kbart.specs.Identifiers.{are_none, identifiers_of}
use Rattle.feed_dates.specs.declared.day_range.DayRange.{DayRange}
use Rattle.feed_kbart.specs.declared.header.Columns.{Columns}
use Rattle.feed_kbart.specs.declared.fault.Reason.{Reason}
use Rattle.feed_kbart.specs.declared.fault.Reason.TheVariants.{OtherType, NoIssn, NoIsbn, BadDate, Reversed}
use Rattle.feed_kbart.specs.declared.identifiers.Identifiers.{Identifiers}
use Rattle.feed_kbart.specs.declared.identifiers.Kind.{Kind}
use Rattle.feed_kbart.specs.declared.identifiers.Kind.TheVariants.{Serial, Book}
use Rattle.feed_kbart.specs.declared.label.Label.TheVariants.{DateFirstIssueOnline, DateLastIssueOnline, NumFirstVolOnline, NumLastVolOnline, OnlineIdentifier, PrintIdentifier, PublicationType}

-- the identifiers, the days and the volumes that a record covers
pub record CoverageValue : Type 0 where
  pub identifiers : Identifiers
  pub first_day : Option ℤ
  pub last_day : Option ℤ
  pub first_volume : Option ℕ
  pub last_volume : Option ℕ

-- whether a text is empty
abbrev pub is_empty : List ℕ → Bool
is_empty [] = true
is_empty (b ∷ bytes) = false

-- a publication type is a serial's if it is empty or `serial`, and a book's if it is `monograph`, ignoring spaces at
-- both ends and the case of ASCII letters
abbrev pub kind_of : List ℕ → Option Kind
kind_of text =
    if is_empty (trimmed text) || str_eq_ignore_ascii_case (trimmed text) (codes "serial") then Some Serial
    else if str_eq_ignore_ascii_case (trimmed text) (codes "monograph") then Some Book
    else None

-- the days of a coverage date, ignoring spaces at both ends; an empty date has none and leaves its side open
abbrev pub coverage_days : List ℕ → Option DayRange
coverage_days text = days_of (trimmed text)

-- a coverage date is empty or valid
abbrev pub is_coverage_date : List ℕ → Bool
is_coverage_date text = is_empty (trimmed text) || is_some (coverage_days text)

-- the first day of the one is after the last day of the other
abbrev pub is_reversed : Option DayRange → Option DayRange → Bool
is_reversed (Some begin) (Some end) = int_lt end.last begin.first
is_reversed None end = false
is_reversed (Some begin) None = false

-- the first and the last volume; neither counts if the first exceeds the last
abbrev pub volumes : Option ℕ → Option ℕ → Option ℕ × Option ℕ
volumes (Some first) (Some last) = if nat_lt last first then (None, None) else (Some first, Some last)
volumes None last = (None, last)
volumes (Some first) None = (Some first, None)

-- what only a serial has: the dates and the volumes of a book are ignored
abbrev pub of_serial : {A : Type 0} → Kind → Option A → Option A
of_serial Serial value = value
of_serial Book value = None

-- what the cells of a title of this kind cover: its identifiers, its days and its volumes
abbrev pub coverage_by : Kind → (print online first last low high : List ℕ) → CoverageValue
coverage_by of print online first last low high = record {
  identifiers = identifiers_of of print online;
  first_day = of_serial of (option_map (λ days. days.first) (coverage_days first));
  last_day = of_serial of (option_map (λ days. days.last) (coverage_days last));
  first_volume = of_serial of (volumes (volume_of (trimmed low)) (volume_of (trimmed high))).0;
  last_volume = of_serial of (volumes (volume_of (trimmed low)) (volume_of (trimmed high))).1;
}

-- what a record of this kind covers
abbrev pub coverage_as : Kind → Columns → List (List ℕ) → CoverageValue
coverage_as of columns fields =
    coverage_by of (field_of columns PrintIdentifier fields) (field_of columns OnlineIdentifier fields)
    (field_of columns DateFirstIssueOnline fields) (field_of columns DateLastIssueOnline fields)
    (field_of columns NumFirstVolOnline fields) (field_of columns NumLastVolOnline fields)

-- the kind of a row; a record of neither kind reads as a serial's
abbrev pub kind_read : List ℕ → Kind
kind_read text = unwrap_or (kind_of text) Serial

-- the identifiers, the days and the volumes of a record that is a row
abbrev pub coverage_of : Columns → List (List ℕ) → CoverageValue
coverage_of columns fields = coverage_as (kind_read (field_of columns PublicationType fields)) columns fields

-- why a record without an identifier is skipped
abbrev pub without : Kind → Reason
without Serial = NoIssn
without Book = NoIsbn

-- why a record is skipped because of its dates; those of a book are ignored
abbrev pub dates_reason : Kind → Columns → List (List ℕ) → Option Reason
dates_reason Book columns fields = None
dates_reason Serial columns fields =
    if not (is_coverage_date (field_of columns DateFirstIssueOnline fields) && is_coverage_date (field_of columns DateLastIssueOnline fields)) then Some BadDate
    else if is_reversed (coverage_days (field_of columns DateFirstIssueOnline fields)) (coverage_days (field_of columns DateLastIssueOnline fields)) then Some Reversed
    else None

-- why a record of this kind is skipped, or nothing if it is a row
abbrev pub reason_as : Kind → Columns → List (List ℕ) → Option Reason
reason_as of columns fields = if are_none (coverage_as of columns fields).identifiers then Some (without of) else dates_reason of columns fields

-- the same, if it has a kind; a record of neither kind is skipped because of its type
abbrev pub reason_by : Option Kind → Columns → List (List ℕ) → Option Reason
reason_by (Some of) columns fields = reason_as of columns fields
reason_by None columns fields = Some OtherType

-- why a record is skipped, or nothing if it is a row
abbrev pub reason_of : Columns → List (List ℕ) → Option Reason
reason_of columns fields = reason_by (kind_of (field_of columns PublicationType fields)) columns fields
