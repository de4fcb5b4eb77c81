-- Days of the Gregorian calendar from year 1 to 9999, and their dates as ISO 8601 writes them.
use Rattle.std.specs.Prelude.{◌≡◌, ◌==◌, ◌&&◌, ℕ, zero, suc, ◌+◌, ◌-◌, ◌*◌, ◌/◌, ◌%◌, nat_le}
use Rattle.std.specs.Prelude.{Bool, false, if◌then◌else◌, List, [], ◌∷◌, ◌++◌, Option, Some, None, ℤ}
use Rattle.std.specs.Prelude.{pos, unsigned_abs, ◌-ℤ◌, int_le, FitsSigned}
use Rattle.std.specs.Int.{IsInRange, w32}
use Rattle.std.specs.Char.{is_ascii_digit}
use Rattle.std.specs.Option.{option_map_or}
use Rattle.std.specs.Ordering.{int_eq}
use Rattle.jiff_core.specs.Calendar.{days_from_civil, days_in_month}

-- the calendar has this day, in a year from 1 to 9999
pub record IsDay (year month day : ℕ) : Type 0 where
  pub year_in : IsInRange 1 9999 year
  pub month_in : IsInRange 1 12 month
  pub day_in : IsInRange 1 (days_in_month (pos year) month) day

-- the last two decimal digits of a number
abbrev pub two : ℕ → List ℕ
two n = (48 + n / 10 % 10) ∷ (48 + n % 10) ∷ []

-- `YYYY-MM-DD`
abbrev pub ymd_text : ℕ → ℕ → ℕ → List ℕ
ymd_text year month day = two (year / 100) ++ two year ++ (45 ∷ two month) ++ (45 ∷ two day)

-- the text is the date of the day with this number, counted from 1970-01-01
pub record IsDateOf (number : ℤ) (text : List ℕ) : Type 0 where
  pub year : ℕ
  pub month : ℕ
  pub day : ℕ
  pub real : IsDay year month day
  pub spelled : text ≡ ymd_text year month day
  pub numbered : number ≡ days_from_civil (pos year) month day

-- the same relation as a function that parses the text

-- the number that two digits denote
abbrev pub two_digits : ℕ → ℕ → Option ℕ
two_digits a b = if is_ascii_digit a && is_ascii_digit b then Some ((a - 48) * 10 + (b - 48)) else None

-- the number that four digits denote
abbrev pub four_digits : ℕ → ℕ → ℕ → ℕ → Option ℕ
four_digits a b c d =
    if is_ascii_digit a && is_ascii_digit b && is_ascii_digit c && is_ascii_digit d
    then Some ((a - 48) * 1000 + (b - 48) * 100 + (c - 48) * 10 + (d - 48)) else None

-- whether the calendar has this day, in a year from 1 to 9999
abbrev pub is_day : ℕ → ℕ → ℕ → Bool
is_day year month day =
    nat_le 1 year && nat_le year 9999 && nat_le 1 month && nat_le month 12
    && nat_le 1 day && nat_le day (days_in_month (pos year) month)

-- the number of a day, if the calendar has it
abbrev pub day_number : ℕ → ℕ → ℕ → Option ℤ
day_number year month day = if is_day year month day then Some (days_from_civil (pos year) month day) else None

-- the number of the day with this year, month and day of the month, if each was parsed
abbrev pub day_of_parts : Option ℕ → Option ℕ → Option ℕ → Option ℤ
day_of_parts (Some year) (Some month) (Some day) = day_number year month day
day_of_parts None month day = None
day_of_parts (Some year) None day = None
day_of_parts (Some year) (Some month) None = None

-- the number of the day that `YYYY-MM-DD` names, if it is real
abbrev pub day_of_date : List ℕ → Option ℤ
day_of_date (a ∷ b ∷ c ∷ d ∷ h ∷ e ∷ f ∷ k ∷ i ∷ j ∷ []) =
    if (h == 45) && (k == 45) then day_of_parts (four_digits a b c d) (two_digits e f) (two_digits i j) else None
day_of_date _ = None

-- the inverse: from the number to the text

-- the greatest number up to n whose span begins on or before the day
unfoldable pub last_begun : (ℕ → ℤ) → ℕ → ℤ → ℕ
last_begun start zero day = 0
last_begun start (suc n) day = if int_le (start (suc n)) day then suc n else last_begun start n day

-- the year of a day
abbrev pub year_of : ℤ → ℕ
year_of day = last_begun (λ y. days_from_civil (pos y) 1 1) 9999 day

-- its month in that year
abbrev pub month_of : ℤ → ℕ
month_of day = last_begun (λ m. days_from_civil (pos (year_of day)) m 1) 12 day

-- the date of the day with this number
abbrev pub date_text : ℤ → List ℕ
date_text day =
    ymd_text (year_of day) (month_of day)
    (unsigned_abs (day -ℤ days_from_civil (pos (year_of day)) (month_of day) 1) + 1)

-- the date of a day, if it has one: the text parses as that day
abbrev pub date_of_day : ℤ → Option (List ℕ)
date_of_day day = if option_map_or (int_eq day) (day_of_date (date_text day)) false then Some (date_text day) else None

-- no text is the date of two days
abbrev pub OneDayForDate : Type 0
OneDayForDate = (text : List ℕ) (m n : ℤ) → IsDateOf m text → IsDateOf n text → m ≡ n

-- no day has two dates
abbrev pub OneDateForDay : Type 0
OneDateForDay = (n : ℤ) (text : List ℕ) → IsDateOf n text → text ≡ date_text n

-- the number of a day that has a date fits 32 bits
abbrev pub DayNumbersFit : Type 0
DayNumbersFit = (n : ℤ) (text : List ℕ) → IsDateOf n text → FitsSigned w32 n
