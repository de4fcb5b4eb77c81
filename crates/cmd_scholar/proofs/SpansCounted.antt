-- Each day of a span is among the days that are counted for it.
use Rattle.std.proofs.Common.{◌≡◌, ◌≤◌, ◌<◌, ◌+◌, ◌-◌, ◌*◌, ◌/◌, ◌%◌, ℕ, zero, suc, ℤ, pos, neg_ℤ, ◌+ℤ◌, ◌≤ℤ◌, ◌<ℤ◌, refl, inl, inr, arith}
use Rattle.std.proofs.lemmas.Bool.{cases_lt}
use Rattle.jiff_core.specs.Calendar.{day_count, days_from_civil}
use Rattle.jiff_core.proofs.CalendarLemmas.{day_count-day, day_count-day_of_year, day_count-last_of_year, day_count-next_month, day_count-next_year}
use Rattle.jiff_core.proofs.CalendarLemmas.{day_of_year_bound, days_from_civil-day_count, days_in_month_bounds, days_in_year_bounds}
use Rattle.jiff_core.proofs.SignedLemmas.{signed_arith}
use borrow.Author.Differences.{up, down}
use Rattle.feed_dates.proofs.Dates.{civil}
use Rattle.feed_answer.specs.Embargo.{first_of_month}
use Rattle.feed_answer.specs.Today.{IsDayOfMonth}
use Rattle.feed_answer.specs.declared.wall.Span.TheVariants.{Days, Months, Years}
use Rattle.cmd_scholar.specs.Laws.{SpansAreCounted}

-- a month has at most 31 days
in_year : (y : ℤ) (m : ℕ) → 1 ≤ m → day_count y (m + 1) 1 ≤ day_count y m 1 + 31
in_year y m first = let next = day_count-next_month y m first in let bound = (days_in_month_bounds y m).0 in omega (arith, next, bound)

year_end : (y next : ℤ) → neg_ℤ (pos 10000) ≤ℤ y → next ≡ y +ℤ pos 1 → day_count next 1 1 ≤ day_count y 12 1 + 31
year_end y next low is =
    omega (arith, day_count-next_year y next low is, day_count-last_of_year y, day_count-day y 12 1 31 (omega arith) (omega arith))

-- the days before a month, which is counted from January of the year 0
month_count : ℕ → ℕ
month_count m = day_count (pos (m / 12)) (m % 12 + 1) 1

month_step : (m : ℕ) → month_count (m + 1) ≤ month_count m + 31
unfolding month_count
month_step m = elim (cases_lt (m % 12) 11) [
  | inl inside ↦
      let year : (m + 1) / 12 ≡ m / 12 = omega arith in
      let month : (m + 1) % 12 ≡ m % 12 + 1 = omega arith in
      rw (year, month) (in_year (pos (m / 12)) (m % 12 + 1) (omega arith))
  | inr last ↦
      let year : (m + 1) / 12 ≡ m / 12 + 1 = omega arith in
      let month : (m + 1) % 12 ≡ 0 = omega arith in
      let here : m % 12 ≡ 11 = omega arith in
      rw (year, month, here) (year_end (pos (m / 12)) (pos (m / 12 + 1)) (omega (arith, signed_arith)) (omega (arith, signed_arith)))
]

months_counted : (k m : ℕ) → month_count (k + m) ≤ month_count m + 31 * k
months_counted zero m = let same : zero + m ≡ m = omega arith in rw same (omega arith)
months_counted (suc k) m =
    let next : suc k + m ≡ k + m + 1 = omega arith in
    rw next (omega (arith, month_step (k + m), months_counted k m))

-- the days before a year
year_count : ℕ → ℕ
year_count y = day_count (pos y) 1 1

year_step : (y : ℕ) → year_count (y + 1) ≤ year_count y + 366
unfolding year_count
year_step y =
    omega (arith, day_count-next_year (pos y) (pos (y + 1)) (omega (arith, signed_arith)) (omega (arith, signed_arith)), (days_in_year_bounds (pos y)).0)

years_counted : (k y : ℕ) → year_count (k + y) ≤ year_count y + 366 * k
years_counted zero y = let same : zero + y ≡ y = omega arith in rw same (omega arith)
years_counted (suc k) y =
    let next : suc k + y ≡ k + y + 1 = omega arith in
    rw next (omega (arith, year_step (k + y), years_counted k y))

-- the number of a day, and the days before it
counted : (day y : ℤ) (m place : ℕ) → day ≡ days_from_civil y m place → up day + 4_371_953 ≡ down day + day_count y m place
counted day y m place is = rw is (days_from_civil-day_count y m place)

within : (today first day : ℤ) (t s n : ℕ) → up today + 4_371_953 ≡ down today + t → up first + 4_371_953 ≡ down first + s → t < s + n
    → first ≤ℤ day → today <ℤ (day +ℤ pos n)
within today first day t s n one two less from = omega (arith, signed_arith, one, two, less, from)

-- a day of a month is less than 31 days after its first
after_month : (month : ℕ) (day : ℤ) (h : IsDayOfMonth month day) → day_count (pos (month / 12)) (month % 12 + 1) h.place < month_count month + 31
unfolding month_count
after_month month day h =
    omega (
      arith,
      day_count-day (pos (month / 12)) (month % 12 + 1) h.place 1 h.real.day_in.0 (omega arith),
      h.real.day_in.1,
      (days_in_month_bounds (pos (month / 12)) (month % 12 + 1)).0,
    )

-- and less than 366 days after the first of the year
after_year : (month : ℕ) (day : ℤ) (h : IsDayOfMonth month day) → day_count (pos (month / 12)) (month % 12 + 1) h.place < year_count (month / 12) + 366
unfolding year_count
after_year month day h =
    omega (
      arith,
      day_count-day_of_year (pos (month / 12)) (month % 12 + 1) h.place h.real.day_in.0,
      day_of_year_bound (pos (month / 12)) (month % 12 + 1) h.place (civil (month / 12) (month % 12 + 1) h.place h.real),
      (days_in_year_bounds (pos (month / 12))).0,
    )

first_counted : (m : ℕ) → up (first_of_month m) + 4_371_953 ≡ down (first_of_month m) + month_count m
unfolding month_count
first_counted m = days_from_civil-day_count (pos (m / 12)) (m % 12 + 1) 1

january : (y : ℕ) → month_count (12 * y) ≡ year_count y
unfolding month_count year_count
january y =
    let year : 12 * y / 12 ≡ y = omega arith in
    let month : 12 * y % 12 ≡ 0 = omega arith in
    rw (year, month) refl

pub spans_counted : SpansAreCounted
spans_counted today (Days n) day h positive from = omega (arith, signed_arith, positive, from)
spans_counted today (Months n) day h positive from =
    let first = today.month - (n - 1) in
    let whole : (today.month - first) + first ≡ today.month = omega arith in
    let months = rw whole at (months_counted (today.month - first) first) in
    within today.day (first_of_month first) day (day_count (pos (today.month / 12)) (today.month % 12 + 1) h.place) (month_count first) (31 * n)
    (counted today.day (pos (today.month / 12)) (today.month % 12 + 1) h.place h.number) (first_counted first)
    (omega (arith, months, after_month today.month today.day h, positive)) from
spans_counted today (Years n) day h positive from =
    let year = today.month / 12 in
    let first = year - (n - 1) in
    let whole : (year - first) + first ≡ year = omega arith in
    let years = rw whole at (years_counted (year - first) first) in
    within today.day (first_of_month (12 * first)) day (day_count (pos (today.month / 12)) (today.month % 12 + 1) h.place) (month_count (12 * first)) (366 * n)
    (counted today.day (pos (today.month / 12)) (today.month % 12 + 1) h.place h.number) (first_counted (12 * first))
    (omega (arith, years, january first, after_year today.month today.day h, positive)) from
