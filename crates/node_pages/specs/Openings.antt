-- The day from which readers may see what an embargo hides.
use Rattle.std.specs.Prelude.{ℕ, ◌+◌, ◌-◌, ◌*◌, ◌/◌, ◌%◌, nat_lt, Bool, false, if◌then◌else◌, List, [], ◌∷◌, Option, Some, None, ℤ, pos, ◌+ℤ◌, int_lt}
use Rattle.std.specs.Ordering.{is_lt, nat_cmp}
use Rattle.std.specs.Cmp.Lexicographic.{slice_cmp}
use Rattle.feed_dates.specs.Days.{date_of_day, ymd_text}
use Rattle.feed_dates.specs.declared.day_range.DayRange.{DayRange}
use Rattle.feed_answer.specs.Form.{embargo_of}
use Rattle.feed_answer.specs.declared.embargo.Embargo.{Embargo}
use Rattle.feed_answer.specs.declared.wall.Span.{Span}
use Rattle.feed_answer.specs.declared.wall.Span.TheVariants.{Days, Months, Years}
use Rattle.node_site.specs.Site as site_file
use Rattle.node_site.specs.Texts.{text_of}
use Rattle.node_site.specs.declared.text_table.Text.TheVariants as text
use Rattle.node_hits.specs.Hits.{ReleaseHitValue, is_full_text}
use Rattle.node_pages.specs.Coverage.{date_after}

abbrev pub digit_value : ℕ → ℕ
digit_value digit = digit - 48

-- the month of a date that is written `YYYY-MM-DD`, counted from January of the year 0
abbrev pub month_in : List ℕ → ℕ
month_in (a ∷ b ∷ c ∷ d ∷ h ∷ e ∷ f ∷ more) =
    12 * (100 * (10 * digit_value a + digit_value b) + 10 * digit_value c + digit_value d) + 10 * digit_value e + digit_value f - 1
month_in other = 0

-- the date of the first day of a month, up to the year 9999
abbrev pub month_start : ℕ → Option (List ℕ)
month_start month = if nat_lt month 120000 then Some (ymd_text (month / 12) (month % 12 + 1) 1) else None

-- the date of a day, counted from 1970-01-01
unfoldable pub dated : ℤ → Option (List ℕ)
dated day = date_of_day day

-- the same up to the year 9999, which ends before the day 10,000,000
abbrev pub date_at : ℤ → Option (List ℕ)
date_at day = if int_lt day (pos 10000000) then dated day else None

-- the first date on which the most recent days, months or years no longer have a day with this date
abbrev pub uncovered : Span → ℤ → List ℕ → Option (List ℕ)
uncovered (Days length) day date = date_at (day +ℤ pos length)
uncovered (Months length) day date = month_start (month_in date + length)
uncovered (Years length) day date = month_start (12 * (month_in date / 12 + length))

abbrev pub uncovered_by : Span → ℤ → Option (List ℕ) → Option (List ℕ)
uncovered_by span day None = None
uncovered_by span day (Some date) = uncovered span day date

-- the date from which what type P hides is open, up to this day; where type R also applies, it is unknown
abbrev pub opening_by : Option Span → Option Span → ℤ → Option (List ℕ)
opening_by None None last = None
opening_by None (Some span) last = uncovered_by span last (dated last)
opening_by (Some begins) ends last = None

abbrev pub opening_in : Option Embargo → Option DayRange → Option (List ℕ)
opening_in None days = None
opening_in (Some embargo) None = None
opening_in (Some embargo) (Some days) = opening_by embargo.begins embargo.ends days.last

-- the date from which readers may see all days that are asked for of a hit, as far as its embargo says so
abbrev pub opening_of : ReleaseHitValue → Option (List ℕ)
opening_of found = opening_in (embargo_of found.hit.row.embargo) found.asked

-- the one date is before the other, as both are written `YYYY-MM-DD`
abbrev pub is_before : List ℕ → List ℕ → Bool
is_before date other = is_lt (slice_cmp nat_cmp date other)

-- the sooner of two dates, as far as they are known
abbrev pub sooner : Option (List ℕ) → Option (List ℕ) → Option (List ℕ)
sooner None other = other
sooner (Some one) None = Some one
sooner (Some one) (Some other) = if is_before other one then Some other else Some one

-- the same of a hit that has full text
abbrev pub full_opening : ReleaseHitValue → Option (List ℕ)
full_opening found = if is_full_text found.hit.row then opening_of found else None

-- the earliest date from which readers may see all days that are asked for of a hit that has full text
abbrev pub earliest : List ReleaseHitValue → Option (List ℕ)
earliest [] = None
earliest (found ∷ more) = sooner (full_opening found) (earliest more)

-- from which day something is open to readers, or that it is not open today
abbrev pub opening_words : site_file.SiteValue → Option (List ℕ) → List ℕ
opening_words site None = text_of site text.Embargoed
opening_words site (Some date) = date_after site text.OpenFrom false date
