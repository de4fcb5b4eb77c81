-- The day on which embargoes are evaluated.
use Rattle.std.specs.Prelude.{◌≡◌, ℕ, ◌+◌, ◌/◌, ◌%◌, ℤ, pos}
use Rattle.jiff_core.specs.Calendar.{days_from_civil}
use Rattle.feed_dates.specs.Days.{IsDay}

-- a day, counted from 1970-01-01, and its month, counted from January of the year 0
pub record TodayValue : Type 0 where
  pub day : ℤ
  pub month : ℕ

-- the calendar has this day in the month, in a year from 1 to 9999
pub record IsDayOfMonth (month : ℕ) (day : ℤ) : Type 0 where
  pub place : ℕ
  pub real : IsDay (month / 12) (month % 12 + 1) place
  pub number : day ≡ days_from_civil (pos (month / 12)) (month % 12 + 1) place

-- no day is in two months
abbrev pub OneMonthForDay : Type 0
OneMonthForDay = (one other : ℕ) (day : ℤ) → IsDayOfMonth one day → IsDayOfMonth other day → one ≡ other
