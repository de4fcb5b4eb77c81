-- The elements of the days of a coverage.
use Rattle.std.specs.Prelude.{ℕ, List, [], ◌++◌, slice_range, Option, Some, None, ℤ}
use Rattle.std.specs.Option.{option_and_then}
use Rattle.feed_dates.specs.Days.{date_of_day}
use Rattle.feed_xml.specs.Elements.{leaf}
use Rattle.feed_xml.specs.Marks.{Mark, element}
use Rattle.cmd_scholar.specs.declared.names.TheConstants.{YEAR, MONTH, DAY}

-- the year, the month and the day of a date, YYYY-MM-DD
abbrev pub date_marks : List ℕ → List Mark
date_marks date = leaf YEAR.now (slice_range date 0 4) ++ (leaf MONTH.now (slice_range date 5 7) ++ leaf DAY.now (slice_range date 8 10))

-- an element with a date, if there is one
abbrev pub dated : List ℕ → Option (List ℕ) → List Mark
dated name None = []
dated name (Some date) = element name name (date_marks date)

-- an element with the date of a day, if there is one
abbrev pub day_marks : List ℕ → Option ℤ → List Mark
day_marks name day = dated name (option_and_then date_of_day day)
