-- The time of a line: 25/Nov/2026:07:45:00, in UTC.
use Rattle.std.specs.Prelude.{ℕ, ◌+◌, ◌-◌, ◌*◌, ◌/◌, ◌%◌, ◌==◌, min, if◌then◌else◌, List, [], ◌∷◌, ◌++◌, codes, Option, Some, None, pos, slice_index}
use Rattle.feed_dates.specs.Days.{date_of_day}

-- the name of a month by its number
abbrev pub month_name : ℕ → List ℕ
month_name n =
    if n == 1 then codes "Jan"
    else (if n == 2 then codes "Feb"
    else (if n == 3 then codes "Mar"
    else (if n == 4 then codes "Apr"
    else (if n == 5 then codes "May"
    else (if n == 6 then codes "Jun"
    else (if n == 7 then codes "Jul"
    else (if n == 8 then codes "Aug"
    else (if n == 9 then codes "Sep"
    else (if n == 10 then codes "Oct"
    else (if n == 11 then codes "Nov"
    else codes "Dec"))))))))))

-- the name of the month of a date, YYYY-MM-DD
abbrev pub month_of : List ℕ → List ℕ
month_of date = month_name (min (slice_index date 5 - 48) 1 * 10 + min (slice_index date 6 - 48) 9)

-- a date, YYYY-MM-DD, as DD/Mon/YYYY
abbrev pub day_text : List ℕ → List ℕ
day_text date =
    (slice_index date 8 ∷ slice_index date 9 ∷ 47 ∷ []) ++ (month_of date
    ++ (47 ∷ slice_index date 0 ∷ slice_index date 1 ∷ slice_index date 2 ∷ slice_index date 3 ∷ []))

-- the last two decimal digits of a number
abbrev pub two : ℕ → List ℕ
two n = (48 + n / 10 % 10) ∷ (48 + n % 10) ∷ []

-- the time of a day, in seconds, with a colon in front
abbrev pub clock_text : ℕ → List ℕ
clock_text time = (58 ∷ two (time / 3600)) ++ ((58 ∷ two (time / 60 % 60)) ++ (58 ∷ two (time % 60)))

-- the number of the day, at most the greatest of 32 bits
abbrev pub days_in : ℕ → ℕ
days_in seconds = min (seconds / 86400) 2147483647

-- the day, if the years 0001 to 9999 have it
abbrev pub day_part : Option (List ℕ) → List ℕ
day_part (Some date) = day_text date
day_part None = []

-- the time that is this many seconds after 1970-01-01
abbrev pub time_text : ℕ → List ℕ
time_text seconds = day_part (date_of_day (pos (days_in seconds))) ++ clock_text (seconds % 86400)
