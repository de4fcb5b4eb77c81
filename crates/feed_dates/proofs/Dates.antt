-- A date reads as the day that it was written for, and only dates read.
use Rattle.std.proofs.Common.{◌≡◌, ◌≤◌, ◌<◌, ◌+◌, ◌-◌, ◌*◌, ◌/◌, ◌%◌, ℕ, List, [], ◌∷◌, ◌++◌, Option, Some, None, refl, sym, ap, cond, arith}
use Rattle.std.proofs.Common.{◌∙◌, Bool, true, false, ℤ, pos, inl, inr}
use Rattle.std.specs.Prelude.{MatchOption}
use Rattle.std.specs.Char.{is_ascii_digit}
use Rattle.std.proofs.lemmas.Bool.Decides.{nat_tests, eqb_tells}
use Rattle.jiff_core.specs.Calendar.{days_from_civil, IsCivilDate}
use Rattle.jiff_core.proofs.CalendarLemmas.{days_in_month_bounds, day_count_bounds, days_from_civil-day_count}
use Rattle.jiff_core.proofs.SignedLemmas.{signed_arith}
use Rattle.feed_dates.specs.Days.{IsDay, IsDateOf, two, ymd_text, two_digits, four_digits, is_day, day_number, day_of_parts, day_of_date, OneDayForDate}
use Rattle.feed_dates.specs.Days.{DayNumbersFit}

-- a number below ten is written by a digit
digit-written : (x : ℕ) → x < 10 → is_ascii_digit (48 + x) ≡ true
digit-written x h = grind (arith, nat_tests)

-- the last two digits of a number, read
pub two_digits-two : (n : ℕ) → n < 100 → two_digits (48 + n / 10 % 10) (48 + n % 10) ≡ Some n
two_digits-two n h =
    let tens : is_ascii_digit (48 + n / 10 % 10) ≡ true = digit-written (n / 10 % 10) (omega arith) in
    let ones : is_ascii_digit (48 + n % 10) ≡ true = digit-written (n % 10) (omega arith) in
    let value : (48 + n / 10 % 10 - 48) * 10 + (48 + n % 10 - 48) ≡ n = omega arith in
    rw (tens, ones, value) refl

pub four_digits-written : (y : ℕ) → y ≤ 9999 → four_digits (48 + y / 100 / 10 % 10) (48 + y / 100 % 10) (48 + y / 10 % 10) (48 + y % 10) ≡ Some y
four_digits-written y h =
    let thousands : is_ascii_digit (48 + y / 100 / 10 % 10) ≡ true = digit-written (y / 100 / 10 % 10) (omega arith) in
    let hundreds : is_ascii_digit (48 + y / 100 % 10) ≡ true = digit-written (y / 100 % 10) (omega arith) in
    let tens : is_ascii_digit (48 + y / 10 % 10) ≡ true = digit-written (y / 10 % 10) (omega arith) in
    let ones : is_ascii_digit (48 + y % 10) ≡ true = digit-written (y % 10) (omega arith) in
    let value : (48 + y / 100 / 10 % 10 - 48) * 1000 + (48 + y / 100 % 10 - 48) * 100 + (48 + y / 10 % 10 - 48) * 10 + (48 + y % 10 - 48) ≡ y = omega arith in
    rw (thousands, hundreds, tens, ones, value) refl

pub is_day-real : (y m d : ℕ) → IsDay y m d → is_day y m d ≡ true
is_day-real y m d h = grind (arith, nat_tests, h.year_in, h.month_in, h.day_in)

-- a written date reads as its day
pub day_of_date-written : (y m d : ℕ) → IsDay y m d → day_of_date (ymd_text y m d) ≡ Some (days_from_civil (pos y) m d)
day_of_date-written y m d h =
    let year = four_digits-written y h.year_in.1 in
    let month = two_digits-two m (omega (arith, h.month_in)) in
    let day = two_digits-two d (omega (arith, h.day_in, days_in_month_bounds (pos y) m)) in
    rw (year, month, day, is_day-real y m d h) refl

pub one_date : (n : ℤ) (text : List ℕ) → IsDateOf n text → day_of_date text ≡ Some n
one_date n text h = rw h.spelled (day_of_date-written h.year h.month h.day h.real ∙ ap Some (sym h.numbered))

-- digits that read are the digits that the number is written with
two_value : (a b n : ℕ) → two_digits a b ≡ Some n → (48 ≤ a) × (a ≤ 57) × (48 ≤ b) × (b ≤ 57) × (n ≡ (a - 48) * 10 + (b - 48))
two_value a b n e = grind (arith, nat_tests)

pub two-two_digits : (a b n : ℕ) → two_digits a b ≡ Some n → two n ≡ a ∷ b ∷ []
two-two_digits a b n e =
    let v = two_value a b n e in
    let tens : 48 + n / 10 % 10 ≡ a = omega (arith, v) in
    let ones : 48 + n % 10 ≡ b = omega (arith, v) in
    rw (tens, ones) refl

four_value : (a b c d y : ℕ) → four_digits a b c d ≡ Some y → (48 ≤ a) × (a ≤ 57) × (48 ≤ b) × (b ≤ 57) × (48 ≤ c) × (c ≤ 57) × (48 ≤ d) × (d ≤ 57)
    × (y ≡ (a - 48) * 1000 + (b - 48) * 100 + (c - 48) * 10 + (d - 48))
four_value a b c d y e = grind (arith, nat_tests)

pub two-four_digits : (a b c d y : ℕ) → four_digits a b c d ≡ Some y → two (y / 100) ++ two y ≡ a ∷ b ∷ c ∷ d ∷ []
two-four_digits a b c d y e =
    let v = four_value a b c d y e in
    let thousands : 48 + y / 100 / 10 % 10 ≡ a = omega (arith, v) in
    let hundreds : 48 + y / 100 % 10 ≡ b = omega (arith, v) in
    let tens : 48 + y / 10 % 10 ≡ c = omega (arith, v) in
    let ones : 48 + y % 10 ≡ d = omega (arith, v) in
    rw (thousands, hundreds, tens, ones) refl

pub real-is_day : (y m d : ℕ) → is_day y m d ≡ true → IsDay y m d
real-is_day y m d e = grind (arith, nat_tests)

pub day_number-some : (y m d : ℕ) (n : ℤ) → day_number y m d ≡ Some n → (is_day y m d ≡ true) × (n ≡ days_from_civil (pos y) m d)
day_number-some y m d n e = go (is_day y m d) refl e
  where
    go : (b : Bool) → is_day y m d ≡ b → cond b (Some (days_from_civil (pos y) m d)) None ≡ Some n → (is_day y m d ≡ true) × (n ≡ days_from_civil (pos y) m d)
    go true f e = (f, cc)
    go false f e = cc

-- the parts of a date that reads are written as its text
parts_written : (a b c d e f i j : ℕ) (oy om od : Option ℕ) (n : ℤ) → four_digits a b c d ≡ oy → two_digits e f ≡ om → two_digits i j ≡ od
    → day_of_parts oy om od ≡ Some n → IsDateOf n (a ∷ b ∷ c ∷ d ∷ 45 ∷ e ∷ f ∷ 45 ∷ i ∷ j ∷ [])
parts_written a b c d e f i j (Some y) (Some m) (Some k) n ry rm rd s =
    let found = day_number-some y m k n s in
    let spelled : ymd_text y m k ≡ a ∷ b ∷ c ∷ d ∷ 45 ∷ e ∷ f ∷ 45 ∷ i ∷ j ∷ [] =
    ap (λ year. year ++ (45 ∷ two m) ++ (45 ∷ two k)) (two-four_digits a b c d y ry)
    ∙ ap (λ month. a ∷ b ∷ c ∷ d ∷ [] ++ (45 ∷ month) ++ (45 ∷ two k)) (two-two_digits e f m rm)
    ∙ ap (λ day. a ∷ b ∷ c ∷ d ∷ 45 ∷ e ∷ f ∷ 45 ∷ day) (two-two_digits i j k rd)
    in record { year = y; month = m; day = k; real = real-is_day y m k found.0; spelled = sym spelled; numbered = found.1 }
parts_written a b c d e f i j None om od n ry rm rd s = cc
parts_written a b c d e f i j (Some y) None od n ry rm rd s = cc
parts_written a b c d e f i j (Some y) (Some m) None n ry rm rd s = cc

ten_written : (a b c d h e f k i j : ℕ) (n : ℤ) → day_of_date (a ∷ b ∷ c ∷ d ∷ h ∷ e ∷ f ∷ k ∷ i ∷ j ∷ []) ≡ Some n
    → IsDateOf n (a ∷ b ∷ c ∷ d ∷ h ∷ e ∷ f ∷ k ∷ i ∷ j ∷ [])
ten_written a b c d h e f k i j n s = elim (eqb_tells h 45) [
  | inl first ↦ elim (eqb_tells k 45) [
    | inl second ↦ rw (first.1, second.1) (parts_written a b c d e f i j _ _ _ n refl refl refl (rw (first.0, second.0) at s))
    | inr other ↦ let none = rw (first.0, other.0) at s in cc
  ]
  | inr other ↦ let none = rw other.0 at s in cc
]

-- a text that reads is the date of the day
pub date_read : (n : ℤ) (text : List ℕ) → day_of_date text ≡ Some n → IsDateOf n text
date_read n (a ∷ b ∷ c ∷ d ∷ h ∷ e ∷ f ∷ k ∷ i ∷ j ∷ []) s = ten_written a b c d h e f k i j n s
date_read n _ s = cc

-- no text that does not read is a date
pub no_date : (n : ℤ) (text : List ℕ) → day_of_date text ≡ None → ¬ (IsDateOf n text)
no_date n text e h = let read = one_date n text h in cc

-- a real day is one of the calendar's
pub civil : (y m d : ℕ) → IsDay y m d → IsCivilDate (pos y) m d
civil y m d h = ((omega (arith, signed_arith, h.year_in), omega (arith, signed_arith, h.year_in)), h.month_in, h.day_in)

-- a text is the date of one day
pub one_day : OneDayForDate
one_day text m n g h =
    let mine = one_date m text g in
    let yours = one_date n text h in
    cc

-- a day's number fits 32 bits
pub number_fits : DayNumbersFit
number_fits n text h = rw h.numbered
    (omega (arith, signed_arith, days_from_civil-day_count, day_count_bounds (pos h.year) h.month h.day (civil h.year h.month h.day h.real)))

-- what a text reads as is its day
pub day_is_read : (read : Option ℤ) (text : List ℕ) → read ≡ day_of_date text → MatchOption read ((n : ℤ) → ¬ (IsDateOf n text)) (λ n. IsDateOf n text)
day_is_read None text e = λ n. no_date n text (sym e)
day_is_read (Some n) text e = date_read n text (sym e)
