-- The text of a day's number is the date of that day.
use Rattle.std.proofs.Common.{◌≡◌, ◌≤◌, ◌<◌, ◌+◌, ℕ, zero, suc, refl, sym, ap, cond, arith, ◌∙◌, Bool}
use Rattle.std.proofs.Common.{true, false, ℤ, pos, ◌≤ℤ◌, ◌<ℤ◌, ◌-ℤ◌, int_le, unsigned_abs, inl, inr}
use Rattle.std.proofs.lemmas.Bool.{cases_lt}
use Rattle.jiff_core.specs.Calendar.{days_from_civil, IsCivilDate}
use Rattle.jiff_core.proofs.CalendarLemmas.{day_count-lt_month, day_count-lt_year, day_count-day, days_from_civil-day_count, days_in_month_bounds}
use Rattle.jiff_core.proofs.SignedLemmas.{signed_arith, one_part}
use Rattle.feed_dates.proofs.Dates.{civil}
use Rattle.feed_dates.specs.Days.{IsDay, ymd_text, last_begun, year_of, date_text, OneDateForDay}

-- the greatest number whose span has begun is found
last_begun_is : (start : ℕ → ℤ) (n k : ℕ) (day : ℤ) → 1 ≤ k → k ≤ n → start k ≤ℤ day → ((j : ℕ) → k < j → j ≤ n → day <ℤ start j) → last_begun start n day ≡ k
unfolding last_begun
last_begun_is start zero k day low high here above = absurd (omega arith)
last_begun_is start (suc n) k day low high here above =
    step (int_le (start (suc n)) day) refl (λ below. last_begun_is start n k day low below here (λ j p q. above j p (omega arith)))
  where
    step : (b : Bool) → int_le (start (suc n)) day ≡ b → (k ≤ n → last_begun start n day ≡ k) → cond b (suc n) (last_begun start n day) ≡ k
    step true e rest = elim (cases_lt k (suc n)) [
      | inl below ↦ let past = above (suc n) below (omega arith) in absurd (omega (arith, signed_arith, e, past))
      | inr last ↦ omega arith
    ]
    step false e rest = elim (cases_lt k (suc n)) [
      | inl below ↦ rest (omega arith)
      | inr last ↦
          let same : k ≡ suc n = omega arith in
          let begun : start (suc n) ≤ℤ day = rw same at here in
          absurd (omega (arith, signed_arith, e, begun))
    ]

-- the days of a year begin with 1 January
year_first : (y m d : ℕ) → IsDay y m d → days_from_civil (pos y) 1 1 ≤ℤ days_from_civil (pos y) m d
year_first y m d h = elim (cases_lt 1 m) [
  | inl later ↦ omega (arith, signed_arith, days_from_civil-day_count, day_count-lt_month (pos y) 1 1 m d (first_civil y m d h) h.day_in.0 later)
  | inr same ↦
      let one : m ≡ 1 = omega (arith, h.month_in) in
      rw one (omega (arith, signed_arith, days_from_civil-day_count, day_count-day (pos y) 1 1 d (omega arith) h.day_in.0, h.day_in))
]
  where
    first_civil : (y m d : ℕ) → IsDay y m d → IsCivilDate (pos y) 1 1
    first_civil y m d h = ((civil y m d h).0, (omega arith, omega arith), (omega arith, omega (arith, (days_in_month_bounds (pos y) 1).1)))

year_of-day : (y m d : ℕ) → IsDay y m d → year_of (days_from_civil (pos y) m d) ≡ y
year_of-day y m d h =
    last_begun_is (λ k. days_from_civil (pos k) 1 1) 9999 y (days_from_civil (pos y) m d) h.year_in.0 h.year_in.1 (year_first y m d h)
    (λ j after within. omega (arith, signed_arith, days_from_civil-day_count, day_count-lt_year (pos y) m d (pos j) 1 1 (civil y m d h) (omega arith) (omega (arith, signed_arith))))

month_first : (y m d : ℕ) → IsDay y m d → days_from_civil (pos y) m 1 ≤ℤ days_from_civil (pos y) m d
month_first y m d h = omega (arith, signed_arith, days_from_civil-day_count, day_count-day (pos y) m 1 d (omega arith) h.day_in.0, h.day_in)

last_begun-month : (y m d : ℕ) → IsDay y m d → last_begun (λ k. days_from_civil (pos y) k 1) 12 (days_from_civil (pos y) m d) ≡ m
last_begun-month y m d h =
    last_begun_is (λ k. days_from_civil (pos y) k 1) 12 m (days_from_civil (pos y) m d) h.month_in.0 h.month_in.1 (month_first y m d h)
    (λ j after within. omega (arith, signed_arith, days_from_civil-day_count, day_count-lt_month (pos y) m d j 1 (civil y m d h) (omega arith) after))

place_in_month : (y m d : ℕ) → IsDay y m d → unsigned_abs (days_from_civil (pos y) m d -ℤ days_from_civil (pos y) m 1) + 1 ≡ d
place_in_month y m d h =
    omega (arith, signed_arith, one_part (days_from_civil (pos y) m d -ℤ days_from_civil (pos y) m 1), days_from_civil-day_count, day_count-day (pos y) m 1 d (omega arith) h.day_in.0, h.day_in)

date_text-day : (y m d : ℕ) → IsDay y m d → date_text (days_from_civil (pos y) m d) ≡ ymd_text y m d
date_text-day y m d h = rw (year_of-day y m d h, last_begun-month y m d h, place_in_month y m d h) refl

-- the date of a day is the text of its number
pub date_is_text : OneDateForDay
date_is_text n text h = h.spelled ∙ sym (date_text-day h.year h.month h.day h.real) ∙ ap date_text (sym h.numbered)
