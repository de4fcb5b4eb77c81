-- Laws of queries and grades.
use Rattle.std.specs.Prelude.{◌≡◌, ◌↔◌, ℕ, List, Option, Some, None, true, ℤ, ◌≤ℤ◌}
use Rattle.feed_dates.specs.declared.day_range.DayRange.{DayRange}
use Rattle.feed_answer.specs.IdentifierSet.{IsAscending, is_among, identifier_set}
use Rattle.feed_answer.specs.Grades.{has_begun_by, has_not_ended_before, tested_days}
use Rattle.feed_answer.specs.declared.grade.Grade.TheVariants.{Inside}

-- the set of a list's identifiers has each identifier of the list, and no other
abbrev pub SetHasExactlyItsIdentifiers : Type 0
SetHasExactlyItsIdentifiers = (identifiers : List (List ℕ)) (one : List ℕ) → is_among one (identifier_set identifiers) ≡ is_among one identifiers

-- the set of a list's identifiers ascends, so it has each once
abbrev pub SetsAscend : Type 0
SetsAscend = (identifiers : List (List ℕ)) → IsAscending (identifier_set identifiers)

-- a day is covered from a first day to a last; a missing side is open
pub record IsCovered (first last : Option ℤ) (day : ℤ) : Type 0 where
  pub begun : has_begun_by first day ≡ true
  pub lasting : has_not_ended_before last day ≡ true

-- a day is among those asked for
pub record IsAsked (days : DayRange) (day : ℤ) : Type 0 where
  pub not_before : days.first ≤ℤ day
  pub not_after : day ≤ℤ days.last

-- coverage with at least one day is graded by the days: no grade if no day asked for is covered, inside if each is
pub record AreGradedByDays (first last : Option ℤ) (days : DayRange) : Type 0 where
  pub apart : (tested_days first last days ≡ None) ↔ ((day : ℤ) → IsAsked days day → ¬ (IsCovered first last day))
  pub inside : (tested_days first last days ≡ Some Inside) ↔ ((day : ℤ) → IsAsked days day → IsCovered first last day)

-- for all coverage with at least one day, and all days of a query
abbrev pub GradesFollowDays : Type 0
GradesFollowDays =
    (first last : Option ℤ) (days : DayRange) (some : ℤ) → IsCovered first last some → days.first ≤ℤ days.last
    → AreGradedByDays first last days
