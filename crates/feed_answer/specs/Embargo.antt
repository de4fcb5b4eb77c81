-- Embargoes of a holdings list (NISO RP-9-2014, embargo_info), and the days that they leave open.
use Rattle.std.specs.Prelude.{ℕ, ◌+◌, ◌-◌, ◌*◌, ◌/◌, ◌%◌, Option, Some, None, option_map, ℤ, pos, ◌-ℤ◌, ◌≤ℤ◌, ◌<ℤ◌, IfSome}
use Rattle.std.specs.Int.{int_max, int_min}
use Rattle.jiff_core.specs.Calendar.{days_from_civil}
use Rattle.feed_answer.specs.Today.{TodayValue}
use Rattle.feed_answer.specs.declared.wall.Span.{Span}
use Rattle.feed_answer.specs.declared.wall.Span.TheVariants.{Days, Months, Years}
use Rattle.feed_answer.specs.declared.embargo.Embargo.{Embargo}
use Rattle.feed_answer.specs.declared.embargo.OpenDays.{OpenDays}

-- the first day of a month, which is counted from January of the year 0
abbrev pub first_of_month : ℕ → ℤ
first_of_month month = days_from_civil (pos (month / 12)) (month % 12 + 1) 1

-- the first of the most recent days, months or years, counting the one that holds today. Months and years that would
-- begin before the year 0 begin with it, and so before each day of a list
abbrev pub start : TodayValue → Span → ℤ
start today (Days length) = today.day -ℤ pos (length - 1)
start today (Months length) = first_of_month (today.month - (length - 1))
start today (Years length) = first_of_month (12 * (today.month / 12 - (length - 1)))

-- the later of two first days, and the earlier of two last ones, where there are such
abbrev pub later : Option ℤ → Option ℤ → Option ℤ
later None other = other
later (Some one) None = Some one
later (Some one) (Some other) = Some (int_max one other)

abbrev pub earlier : Option ℤ → Option ℤ → Option ℤ
earlier None other = other
earlier (Some one) None = Some one
earlier (Some one) (Some other) = Some (int_min one other)

-- the day before a span begins
abbrev pub eve : TodayValue → Span → ℤ
eve today span = start today span -ℤ pos 1

-- the days that are open: those of the coverage from the start that type R names to the eve that type P names
abbrev pub open_days : TodayValue → Embargo → Option ℤ → Option ℤ → OpenDays
open_days today embargo first last = record {
  first = later first (option_map (start today) embargo.begins);
  last = earlier last (option_map (eve today) embargo.ends);
}

-- the days from a first to a last one have this day
pub record HasDay (days : OpenDays) (day : ℤ) : Type 0 where
  pub from : IfSome days.first (λ first. first ≤ℤ day)
  pub to : IfSome days.last (λ last. day ≤ℤ last)

-- a reader may see what appeared on this day: the list covers it, it is one of the most recent that type R opens, and
-- none of the most recent that type P hides
pub record IsOpen (today : TodayValue) (embargo : Embargo) (first last : Option ℤ) (day : ℤ) : Type 0 where
  pub from : IfSome first (λ first. first ≤ℤ day)
  pub to : IfSome last (λ last. day ≤ℤ last)
  pub begun : IfSome embargo.begins (λ span. start today span ≤ℤ day)
  pub ended : IfSome embargo.ends (λ span. day <ℤ start today span)
