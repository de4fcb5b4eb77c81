-- How the days that a query asks for lie in those that are open.
use Rattle.std.specs.Prelude.{ℕ, ◌&&◌, Bool, true, if◌then◌else◌, List, Option, Some, None, ℤ, ◌≤ℤ◌, int_le}
use Rattle.std.specs.Option.{option_map_or}
use Rattle.feed_dates.specs.declared.day_range.DayRange.{DayRange}
use Rattle.feed_answer.specs.Today.{TodayValue}
use Rattle.feed_answer.specs.Embargo.{open_days}
use Rattle.feed_answer.specs.Form.{embargo_of}
use Rattle.feed_answer.specs.declared.embargo.Embargo.{Embargo}
use Rattle.feed_answer.specs.declared.embargo.OpenDays.{OpenDays}
use Rattle.feed_answer.specs.declared.availability.Availability.{Availability}
use Rattle.feed_answer.specs.declared.availability.Availability.TheVariants.{Available, Partly, NotCompared, Embargoed}

-- the days begin on this day or before it; without a first day they always have
abbrev pub begins_by : Option ℤ → ℤ → Bool
begins_by None day = true
begins_by (Some first) day = int_le first day

-- the days last to this day; without a last day they have no end
abbrev pub lasts_to : Option ℤ → ℤ → Bool
lasts_to None day = true
lasts_to (Some last) day = int_le day last

-- the last day is not before the first
abbrev pub has_days : OpenDays → Bool
has_days opened = option_map_or (lasts_to opened.last) opened.first true

-- a day is in both, and all of the days are
abbrev pub shares_day : OpenDays → DayRange → Bool
shares_day opened days = has_days opened && begins_by opened.first days.last && lasts_to opened.last days.first

abbrev pub has_all : OpenDays → DayRange → Bool
has_all opened days = begins_by opened.first days.first && lasts_to opened.last days.last

-- how the days lie in those that are open
abbrev pub availability_in : OpenDays → DayRange → Availability
availability_in opened days =
    if shares_day opened days then (if has_all opened days then Available else Partly) else Embargoed

-- the same for days that are open by an embargo, if it has the form
abbrev pub availability_by : TodayValue → Option Embargo → Option ℤ → Option ℤ → DayRange → Availability
availability_by today None first last days = NotCompared
availability_by today (Some embargo) first last days = availability_in (open_days today embargo first last) days

-- the same for what a query asks for, where the list has days
abbrev pub availability_of : TodayValue → List ℕ → Option ℤ → Option ℤ → Option DayRange → Availability
availability_of today embargo first last None = NotCompared
availability_of today embargo None None (Some days) = NotCompared
availability_of today embargo first last (Some days) = availability_by today (embargo_of embargo) first last days

-- the days that are asked for have this day
pub record IsAsked (days : DayRange) (day : ℤ) : Type 0 where
  pub from : days.first ≤ℤ day
  pub to : day ≤ℤ days.last

-- what an availability says of the days that are asked for: all are open; some are, and some are not; or none is
abbrev pub TellsOf : Availability → (ℤ → Type 0) → DayRange → Type 0
TellsOf Available Open days = (day : ℤ) → IsAsked days day → Open day
TellsOf Partly Open days = ((day : ℤ) × IsAsked days day × Open day) × ((day : ℤ) × IsAsked days day × ¬ Open day)
TellsOf Embargoed Open days = (day : ℤ) → IsAsked days day → ¬ Open day
TellsOf NotCompared Open days = Unit {0}
