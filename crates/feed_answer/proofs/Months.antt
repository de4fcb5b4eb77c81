-- The months of days, and the days with which months begin.
use Rattle.std.proofs.Common.{◌≡◌, ◌≤◌, ◌<◌, ◌+◌, ◌-◌, ◌*◌, ◌/◌, ◌%◌, ℕ, ℤ, pos, ◌≤ℤ◌, ◌<ℤ◌, unsigned_abs}
use Rattle.std.proofs.Common.{sym, ◌∙◌, inl, inr, arith}
use Rattle.std.proofs.lemmas.Bool.{cases_lt}
use Rattle.jiff_core.specs.declared.civil.date.Date.{Date}
use Rattle.jiff_core.specs.Calendar.{days_from_civil, IsCivilDate, IsEpochDay}
use Rattle.jiff_core.specs.Date.{epoch_day}
use Rattle.jiff_core.proofs.CalendarLemmas.{day_count_bounds, day_count-lt_month, day_count-lt_year, days_from_civil-day_count, days_in_month_bounds}
use Rattle.jiff_core.proofs.DateLemmas.{epoch_day_injective}
use Rattle.jiff_core.proofs.SignedLemmas.{signed_arith, one_part}
use Rattle.feed_dates.proofs.Dates.{civil}
use Rattle.feed_answer.specs.Today.{IsDayOfMonth, OneMonthForDay}
use Rattle.feed_answer.specs.Embargo.{first_of_month}
use Rattle.feed_answer.specs.EmbargoLaws.{StartsMoveForward}
use Rattle.feed_answer.specs.declared.wall.Span.TheVariants.{Days, Months, Years}

real_date : (month : ℕ) (day : ℤ) (h : IsDayOfMonth month day) → IsCivilDate (pos (month / 12)) (month % 12 + 1) h.place
real_date month day h = civil (month / 12) (month % 12 + 1) h.place h.real

-- a day of a month is one of the calendar's days
pub epoch_day_of : (month : ℕ) (day : ℤ) → IsDayOfMonth month day → IsEpochDay day
epoch_day_of month day h = rw h.number (
  omega (arith, signed_arith, days_from_civil-day_count, day_count_bounds (pos (month / 12)) (month % 12 + 1) h.place (real_date month day h)),
  omega (arith, signed_arith, days_from_civil-day_count, day_count_bounds (pos (month / 12)) (month % 12 + 1) h.place (real_date month day h)),
)

date_in : (month : ℕ) (day : ℤ) → IsDayOfMonth month day → Date
date_in month day h = let real = real_date month day h in
    record { year = pos (month / 12); month = month % 12 + 1; day = h.place; year_in = real.0; month_in = real.1; day_in = real.2 }

-- the date of a day of a month has that year and that month
pub parts_in : (month : ℕ) (day : ℤ) (date : Date) → epoch_day date ≡ day → IsDayOfMonth month day → (date.year ≡ pos (month / 12)) × (date.month ≡ month % 12 + 1)
unfolding date_in
parts_in month day date is h = let same = epoch_day_injective date (date_in month day h) (is ∙ h.number) in (same.0, same.1)

pub year_in : (month : ℕ) (day : ℤ) (date : Date) → epoch_day date ≡ day → IsDayOfMonth month day → pos 1 ≤ℤ date.year
year_in month day date is h = rw (parts_in month day date is h).0 (omega (arith, signed_arith, h.real.year_in))

-- the day of a date is one of its month
pub month_here : (month : ℕ) (day : ℤ) (date : Date) → epoch_day date ≡ day → pos 1 ≤ℤ date.year → month ≡ unsigned_abs date.year * 12 + date.month - 1 → IsDayOfMonth month day
month_here month day date is first counted =
    let year : pos (unsigned_abs date.year) ≡ date.year = omega (arith, signed_arith, one_part date.year) in
    let quotient : month / 12 ≡ unsigned_abs date.year = omega (arith, date.month_in) in
    let rest : month % 12 + 1 ≡ date.month = omega (arith, date.month_in) in
    record {
      place = date.day;
      real = record {
        year_in = rw quotient (omega (arith, signed_arith, year), omega (arith, signed_arith, year, date.year_in));
        month_in = rw rest date.month_in;
        day_in = rw (quotient, rest) date.day_in;
      };
      number = rw (quotient, rest, year) (sym is);
    }

-- a day is in one month
pub one_month : OneMonthForDay
unfolding date_in
one_month a b day h k =
    let same = epoch_day_injective (date_in a day h) (date_in b day k) (sym h.number ∙ k.number) in
    let years : a / 12 ≡ b / 12 = omega (arith, signed_arith, same.0) in
    let months : a % 12 ≡ b % 12 = omega (arith, same.1) in
    omega (arith, years, months)

-- a day of an earlier month is earlier
earlier_month : (a b i j : ℕ) → IsCivilDate (pos (a / 12)) (a % 12 + 1) i → 1 ≤ j → a < b
    → days_from_civil (pos (a / 12)) (a % 12 + 1) i <ℤ days_from_civil (pos (b / 12)) (b % 12 + 1) j
earlier_month a b i j real first lt = elim (cases_lt (a / 12) (b / 12)) [
  | inl before ↦ omega (
    arith,
    signed_arith,
    days_from_civil-day_count,
    day_count-lt_year (pos (a / 12)) (a % 12 + 1) i (pos (b / 12)) (b % 12 + 1) j real first (omega (arith, signed_arith, before)),
  )
  | inr after ↦
      let year : b / 12 ≡ a / 12 = omega (arith, lt, after) in
      let month : a % 12 + 1 < b % 12 + 1 = omega (arith, lt, year) in
      rw year (omega (arith, signed_arith, days_from_civil-day_count, day_count-lt_month (pos (a / 12)) (a % 12 + 1) i (b % 12 + 1) j real first month))
]

first_real : (a : ℕ) → a < 120_000 → IsCivilDate (pos (a / 12)) (a % 12 + 1) 1
first_real a small = (
  (omega (arith, signed_arith, small), omega (arith, signed_arith, small)),
  (omega arith, omega arith),
  (omega arith, omega (arith, days_in_month_bounds (pos (a / 12)) (a % 12 + 1))),
)

-- months begin in their order
first_of_month-le : (a b : ℕ) → b < 120_000 → a ≤ b → first_of_month a ≤ℤ first_of_month b
first_of_month-le a b small le = elim (cases_lt a b) [
  | inl lt ↦ let before = earlier_month a b 1 1 (first_real a (omega arith)) (omega arith) lt in omega (arith, signed_arith, before)
  | inr ge ↦ let same : a ≡ b = omega arith in rw same (omega (arith, signed_arith))
]

-- earlier days are in earlier months
month_order : (a b : ℕ) (d e : ℤ) → IsDayOfMonth a d → IsDayOfMonth b e → d ≤ℤ e → a ≤ b
month_order a b d e h k le = elim (cases_lt b a) [
  | inl lt ↦
      let before = earlier_month b a k.place h.place (real_date b e k) h.real.day_in.0 lt in
      absurd (omega (arith, signed_arith, before, le, h.number, k.number))
  | inr ge ↦ ge
]

month_bound : (a : ℕ) (d : ℤ) → IsDayOfMonth a d → a < 120_000
month_bound a d h = omega (arith, h.real.year_in)

-- spans begin in the order of the days
pub forward : StartsMoveForward
forward one other (Days n) h k le = omega (arith, signed_arith, le)
forward one other (Months n) h k le =
    let bound = month_bound other.month other.day k in
    first_of_month-le (one.month - (n - 1)) (other.month - (n - 1)) (omega arith) (omega (arith, month_order one.month other.month one.day other.day h k le))
forward one other (Years n) h k le =
    let bound = month_bound other.month other.day k in
    let order = month_order one.month other.month one.day other.day h k le in
    first_of_month-le (12 * (one.month / 12 - (n - 1))) (12 * (other.month / 12 - (n - 1))) (omega arith) (omega arith)
