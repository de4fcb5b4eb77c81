-- The rows that a query without a date and a volume asks for.
use Rattle.std.proofs.Common.{◌≡◌, refl, ap}
use Rattle.std.specs.Prelude.{if◌then◌else◌, Option, Some, None}
use Rattle.feed_kbart.specs.Identifiers.{kind}
use Rattle.feed_kbart.specs.RowValue.{RowValue}
use Rattle.feed_kbart.specs.declared.identifiers.Kind.{Kind}
use Rattle.feed_kbart.specs.declared.identifiers.Kind.TheVariants.{Serial, Book}
use Rattle.feed_answer.specs.Grades.{both_grades, days_grade, grade_as, grade_of, has_named, volume_grade}
use Rattle.feed_answer.specs.QueryValue.{QueryValue}
use Rattle.feed_answer.specs.declared.grade.Grade.{Grade}
use Rattle.feed_answer.specs.declared.grade.Grade.TheVariants.{Inside, Overlap, Untested}
use Rattle.node_hits.specs.Searches.{whole_titles, without_volume}

-- such a query compares nothing
uncompared : (row : RowValue) → both_grades (days_grade row.first_day row.last_day None) (volume_grade row.first_volume row.last_volume None) ≡ Some Untested
uncompared row = refl

graded_as : (k : Kind) (query : QueryValue) (row : RowValue) → grade_as k (whole_titles query) row ≡ Some Untested
graded_as Serial query row = refl
graded_as Book query row = refl

pub graded : (query : QueryValue) (row : RowValue) → grade_of (whole_titles query) row ≡ (if has_named query row then Some Untested else None)
graded query row = ap (λ g. if has_named query row then g else None) (graded_as (kind row.identifiers) query row)

-- the grade of a row that is asked for, by its days
abbrev pub by_days : Kind → RowValue → QueryValue → Option Grade
by_days Serial row query = days_grade row.first_day row.last_day query.days
by_days Book row query = Some Untested

-- a query without a volume compares days alone
undenied : (grade : Option Grade) → both_grades grade (Some Untested) ≡ grade
undenied None = refl
undenied (Some Untested) = refl
undenied (Some Overlap) = refl
undenied (Some Inside) = refl

dated_as : (k : Kind) (query : QueryValue) (row : RowValue) → grade_as k (without_volume query) row ≡ by_days k row query
dated_as Serial query row = undenied (days_grade row.first_day row.last_day query.days)
dated_as Book query row = refl

pub dated : (query : QueryValue) (row : RowValue)
    → grade_of (without_volume query) row ≡ (if has_named query row then by_days (kind row.identifiers) row query else None)
dated query row = ap (λ g. if has_named query row then g else None) (dated_as (kind row.identifiers) query row)
