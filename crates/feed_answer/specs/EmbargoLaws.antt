-- Laws of embargoes.
use Rattle.std.specs.Prelude.{◌↔◌, Option, ℤ, ◌≤ℤ◌}
use Rattle.feed_dates.specs.declared.day_range.DayRange.{DayRange}
use Rattle.feed_answer.specs.Today.{TodayValue, IsDayOfMonth}
use Rattle.feed_answer.specs.Embargo.{HasDay, IsOpen, open_days, start}
use Rattle.feed_answer.specs.Availability.{TellsOf, availability_in}
use Rattle.feed_answer.specs.declared.wall.Span.{Span}
use Rattle.feed_answer.specs.declared.embargo.Embargo.{Embargo}

-- the open days are those that are open, one by one
abbrev pub OpenDaysAreOpen : Type 0
OpenDaysAreOpen = (today : TodayValue) (embargo : Embargo) (first last : Option ℤ) (day : ℤ)
    → HasDay (open_days today embargo first last) day ↔ IsOpen today embargo first last day

-- an availability says which of the days that are asked for are open
abbrev pub AvailabilityTellsOfDays : Type 0
AvailabilityTellsOfDays = (today : TodayValue) (embargo : Embargo) (first last : Option ℤ) (days : DayRange) → days.first ≤ℤ days.last
    → TellsOf (availability_in (open_days today embargo first last) days) (IsOpen today embargo first last) days

-- no span begins earlier on a later day
abbrev pub StartsMoveForward : Type 0
StartsMoveForward = (one other : TodayValue) (span : Span) → IsDayOfMonth one.month one.day → IsDayOfMonth other.month other.day
    → one.day ≤ℤ other.day → start one span ≤ℤ start other span
