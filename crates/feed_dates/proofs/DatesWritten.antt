-- A day is written as its date, and has none outside the years 0001 to 9999.
use Rattle.std.proofs.Common.{◌≡◌, ℕ, ℤ, pos, ◌≤ℤ◌, unsigned_abs, List, Option, Some, None, Bool, true, false, refl, sym, ◌∙◌, ap, subst, arith}
use Rattle.std.specs.Int.{IsInRange}
use Rattle.std.specs.Ordering.{int_eq}
use Rattle.std.proofs.lemmas.Bool.Decides.{Decides-int_eq}
use Rattle.jiff_core.specs.declared.civil.date.Date.{Date}
use Rattle.jiff_core.specs.Calendar.{days_in_month, IsEpochDay}
use Rattle.jiff_core.specs.Date.{epoch_day}
use Rattle.jiff_core.proofs.CalendarLemmas.{day_count_bounds, days_from_civil-day_count}
use Rattle.jiff_core.proofs.DateLemmas.{epoch_day_injective}
use Rattle.jiff_core.proofs.SignedLemmas.{signed_arith, one_part}
use Rattle.feed_dates.specs.Days.{IsDateOf, ymd_text, day_of_date, date_text, date_of_day}
use Rattle.feed_dates.proofs.Dates.{civil, one_date, date_read}
use Rattle.feed_dates.proofs.DateTexts.{date_is_text}

-- the date of a day
pub dated : (n : ℤ) (text : List ℕ) → IsDateOf n text → Some text ≡ date_of_day n
dated n text h =
    let is = date_is_text n text h in
    let read : day_of_date (date_text n) ≡ Some n = ap day_of_date (sym is) ∙ one_date n text h in
    rw (read, (Decides-int_eq n n).1 refl) (ap Some is)

-- a day without one
pub undated : (n : ℤ) → ((text : List ℕ) → ¬ (IsDateOf n text)) → None ≡ date_of_day n
undated n none = by (day_of_date (date_text n)) refl
  where
    at : (m : ℤ) (b : Bool) → int_eq n m ≡ b → day_of_date (date_text n) ≡ Some m → None ≡ date_of_day n
    at m true same read = absurd (none (date_text n) (date_read n (date_text n) (read ∙ ap Some (sym ((Decides-int_eq n m).0 same)))))
    at m false other read = rw (read, other) refl

    by : (o : Option ℤ) → day_of_date (date_text n) ≡ o → None ≡ date_of_day n
    by None read = rw read refl
    by (Some m) read = at m (int_eq n m) refl read

-- the day of a date is one of the calendar's days
pub epoch_day_of : (n : ℤ) (text : List ℕ) → IsDateOf n text → IsEpochDay n
epoch_day_of n text h = rw h.numbered (
  omega (arith, signed_arith, days_from_civil-day_count, day_count_bounds (pos h.year) h.month h.day (civil h.year h.month h.day h.real)),
  omega (arith, signed_arith, days_from_civil-day_count, day_count_bounds (pos h.year) h.month h.day (civil h.year h.month h.day h.real)),
)

-- and that day alone has its year
pub year_of_date : (n : ℤ) (date : Date) (text : List ℕ) → epoch_day date ≡ n → IsDateOf n text → pos 1 ≤ℤ date.year
year_of_date n date text is h =
    let real = civil h.year h.month h.day h.real in
    let other : Date = record { year = pos h.year; month = h.month; day = h.day; year_in = real.0; month_in = real.1; day_in = real.2 } in
    let same = epoch_day_injective date other (is ∙ h.numbered) in
    rw same.0 (omega (arith, signed_arith, h.real.year_in))

-- a date of the years 0001 to 9999 is written as its day's
pub date_here : (n : ℤ) (date : Date) (text : List ℕ) → epoch_day date ≡ n → pos 1 ≤ℤ date.year → text ≡ ymd_text (unsigned_abs date.year) date.month date.day → IsDateOf n text
date_here n date text is year spelled =
    let same : pos (unsigned_abs date.year) ≡ date.year = omega (arith, signed_arith, one_part date.year) in
    record {
      year = unsigned_abs date.year;
      month = date.month;
      day = date.day;
      real = record {
        year_in = (omega (arith, signed_arith, same), omega (arith, signed_arith, same, date.year_in));
        month_in = date.month_in;
        day_in = subst (λ (y : ℤ). IsInRange 1 (days_in_month y date.month) date.day) (sym same) date.day_in;
      };
      spelled = spelled;
      numbered = rw same (sym is);
    }
