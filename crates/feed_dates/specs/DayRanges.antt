-- The range of days that a date text covers: a year, a month or a day.
use Rattle.std.specs.Prelude.{◌==◌, Option, Some, None, if◌then◌else◌, option_map, ◌≡◌, ℕ, ◌⊎◌, List, [], ◌∷◌, ◌++◌, length, ℤ, pos, ◌≤ℤ◌, MatchOption}
use Rattle.jiff_core.specs.Calendar.{days_from_civil, days_in_month}
use Rattle.feed_dates.specs.Days.{IsDay, day_number, day_of_date, four_digits, two_digits, ymd_text}
use Rattle.feed_dates.specs.declared.day_range.DayRange.{DayRange}

-- the range from one day to another, if both are real
abbrev pub range : Option ℤ → Option ℤ → Option DayRange
range (Some first) (Some last) = Some (record { first = first; last = last })
range None last = None
range (Some first) None = None

-- the days of a year, from 1 January to 31 December
abbrev pub days_of_year : Option ℕ → Option DayRange
days_of_year (Some year) = range (day_number year 1 1) (day_number year 12 31)
days_of_year None = None

-- the days of a month
abbrev pub days_of_month : Option ℕ → Option ℕ → Option DayRange
days_of_month (Some year) (Some month) =
    range (day_number year month 1) (day_number year month (days_in_month (pos year) month))
days_of_month None month = None
days_of_month (Some year) None = None

-- a day alone
abbrev pub single_day : ℤ → DayRange
single_day day = record { first = day; last = day }

-- the days of a date `YYYY`, `YYYY-MM` or `YYYY-MM-DD`; any other text has none
abbrev pub days_of : List ℕ → Option DayRange
days_of (a ∷ b ∷ c ∷ d ∷ []) = days_of_year (four_digits a b c d)
days_of (a ∷ b ∷ c ∷ d ∷ h ∷ e ∷ f ∷ []) = if h == 45 then days_of_month (four_digits a b c d) (two_digits e f) else None
days_of (a ∷ b ∷ c ∷ d ∷ h ∷ e ∷ f ∷ k ∷ i ∷ j ∷ []) = option_map single_day (day_of_date (a ∷ b ∷ c ∷ d ∷ h ∷ e ∷ f ∷ k ∷ i ∷ j ∷ []))
days_of _ = None

-- a date of a query, in the form of a coverage date: `YYYYMM` and `YYYYMMDD` get their hyphens
abbrev pub with_hyphens : List ℕ → List ℕ
with_hyphens (a ∷ b ∷ c ∷ d ∷ e ∷ f ∷ []) = a ∷ b ∷ c ∷ d ∷ 45 ∷ e ∷ f ∷ []
with_hyphens (a ∷ b ∷ c ∷ d ∷ e ∷ f ∷ g ∷ h ∷ []) = a ∷ b ∷ c ∷ d ∷ 45 ∷ e ∷ f ∷ 45 ∷ g ∷ h ∷ []
with_hyphens text = text

-- the days of a date of a query
abbrev pub query_days_of : List ℕ → Option DayRange
query_days_of text = days_of (with_hyphens text)

-- the number of a day whose written date begins with the text
pub record IsDayOf (text : List ℕ) (n : ℤ) : Type 0 where
  pub year : ℕ
  pub month : ℕ
  pub day : ℕ
  pub real : IsDay year month day
  pub rest : List ℕ
  pub begins : ymd_text year month day ≡ text ++ rest
  pub number : n ≡ days_from_civil (pos year) month day

-- the text is as long as `YYYY`, `YYYY-MM` or `YYYY-MM-DD`
abbrev pub IsDateLength : List ℕ → Type 0
IsDateLength text = (length text ≡ 4) ⊎ (length text ≡ 7) ⊎ (length text ≡ 10)

-- the least and the greatest day whose written date begins with the text
pub record AreDaysOf (text : List ℕ) (days : DayRange) : Type 0 where
  pub shape : IsDateLength text
  pub is_first : IsDayOf text days.first
  pub is_last : IsDayOf text days.last
  pub least : (n : ℤ) → IsDayOf text n → days.first ≤ℤ n
  pub greatest : (n : ℤ) → IsDayOf text n → n ≤ℤ days.last

-- the days of a text are the least and the greatest whose written date begins with it. If it has the length of a date
-- and no days, no day's written date begins with it
abbrev pub DatesAreRanges : List ℕ → Type 0
DatesAreRanges text = MatchOption (days_of text) (IsDateLength text → (n : ℤ) → ¬ IsDayOf text n) (AreDaysOf text)
