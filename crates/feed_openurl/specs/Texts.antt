-- Dates and volumes as the texts by which the core reads them.
use Rattle.std.specs.Prelude.{◌≡◌, ℕ, List, Option, Some, None, if◌then◌else◌, is_some}
use Rattle.feed_kbart.specs.Volumes.{volume_of}
use Rattle.feed_dates.specs.DayRanges.{query_days_of, with_hyphens}

-- the text `YYYY`, `YYYY-MM` or `YYYY-MM-DD` of a date of an OpenURL, if the calendar has it
abbrev pub date_text_of : List ℕ → Option (List ℕ)
date_text_of text = if is_some (query_days_of text) then Some (with_hyphens text) else None

-- a text is such a date
abbrev pub IsDateText : List ℕ → Type 0
IsDateText text = date_text_of text ≡ Some text

-- the digits of a volume, if a text is one
abbrev pub volume_text_of : List ℕ → Option (List ℕ)
volume_text_of text = if is_some (volume_of text) then Some text else None

-- a text is the digits of a volume
abbrev pub IsVolumeText : List ℕ → Type 0
IsVolumeText text = volume_text_of text ≡ Some text
