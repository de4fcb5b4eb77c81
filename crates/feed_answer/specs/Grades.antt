-- The rows that match a query, and how well they match.
use Rattle.std.specs.Prelude.{ℕ, ◌&&◌, ◌||◌, nat_le, Bool, true, false, List, Option, Some, None, if◌then◌else◌, codes, ℤ, int_le}
use Rattle.feed_kbart.specs.Identifiers.{kind}
use Rattle.feed_kbart.specs.RowValue.{RowValue}
use Rattle.feed_kbart.specs.declared.identifiers.Kind.{Kind}
use Rattle.feed_kbart.specs.declared.identifiers.Kind.TheVariants.{Serial, Book}
use Rattle.feed_dates.specs.declared.day_range.DayRange.{DayRange}
use Rattle.feed_answer.specs.QueryValue.{QueryValue, is_named}
use Rattle.feed_answer.specs.declared.grade.Grade.{Grade}
use Rattle.feed_answer.specs.declared.grade.Grade.TheVariants.{Untested, Overlap, Inside}

-- the printed name of a grade
abbrev pub grade_text : Grade → List ℕ
grade_text Untested = codes "untested"
grade_text Overlap = codes "overlap"
grade_text Inside = codes "inside"

-- coverage has begun by a day; without a first day it always has
abbrev pub has_begun_by : Option ℤ → ℤ → Bool
has_begun_by None day = true
has_begun_by (Some first) day = int_le first day

-- coverage lasts to a day; without a last day it has no end
abbrev pub has_not_ended_before : Option ℤ → ℤ → Bool
has_not_ended_before None day = true
has_not_ended_before (Some last) day = int_le day last

-- the grade by dates, if they are tested: `Inside` if coverage includes all of the query's days, `Overlap` if only some
abbrev pub tested_days : Option ℤ → Option ℤ → DayRange → Option Grade
tested_days first last days =
    if has_begun_by first days.last && has_not_ended_before last days.first
    then Some (if has_begun_by first days.first && has_not_ended_before last days.last then Inside else Overlap)
    else None

-- the grade by the dates alone; they are tested if both the query and the row have one
abbrev pub days_grade : Option ℤ → Option ℤ → Option DayRange → Option Grade
days_grade first last None = Some Untested
days_grade None None (Some days) = Some Untested
days_grade first last (Some days) = tested_days first last days

-- a volume is not below a first one; without a first one the side is open
abbrev pub is_not_below : Option ℕ → ℕ → Bool
is_not_below None volume = true
is_not_below (Some first) volume = nat_le first volume

-- a volume is not above a last one; without a last one the side is open
abbrev pub is_not_above : Option ℕ → ℕ → Bool
is_not_above None volume = true
is_not_above (Some last) volume = nat_le volume last

-- the grade by volumes, if they are tested: the query's is between the row's
abbrev pub tested_volume : Option ℕ → Option ℕ → ℕ → Option Grade
tested_volume first last volume = if is_not_below first volume && is_not_above last volume then Some Inside else None

-- the grade by the volumes alone; they are tested if both the query and the row have one
abbrev pub volume_grade : Option ℕ → Option ℕ → Option ℕ → Option Grade
volume_grade first last None = Some Untested
volume_grade None None (Some volume) = Some Untested
volume_grade first last (Some volume) = tested_volume first last volume

-- the grade by both, if both pass: that of the dates if they were tested, otherwise that of the volumes
abbrev pub both_grades : Option Grade → Option Grade → Option Grade
both_grades None by_volume = None
both_grades (Some by_days) None = None
both_grades (Some Untested) (Some by_volume) = Some by_volume
both_grades (Some Overlap) (Some by_volume) = Some Overlap
both_grades (Some Inside) (Some by_volume) = Some Inside

-- a row has an identifier that is asked for
abbrev pub has_named : QueryValue → RowValue → Bool
has_named query row = is_named query row.identifiers.print || is_named query row.identifiers.online

-- the grade of a row of this kind: the dates and the volumes of a serial are tested, and those of a book are not
abbrev pub if_serial : Kind → Option Grade → Option Grade
if_serial Serial tested = tested
if_serial Book tested = Some Untested

-- the grade of such a row that has one of those identifiers
abbrev pub grade_as : Kind → QueryValue → RowValue → Option Grade
grade_as of query row =
    if_serial of (both_grades (days_grade row.first_day row.last_day query.days) (volume_grade row.first_volume row.last_volume query.volume))

-- the grade of a row under a query, if it matches
abbrev pub grade_of : QueryValue → RowValue → Option Grade
grade_of query row = if has_named query row then grade_as (kind row.identifiers) query row else None
