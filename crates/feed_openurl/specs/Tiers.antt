-- The date and the volume of an OpenURL: what the core reads, or else a value of an `rft.` key, or else one of OpenURL
-- 0.1.
use Rattle.std.specs.Prelude.{ℕ, Bool, List, map, Option, None, if◌then◌else◌}
use Rattle.std.specs.List.{filter_map}
use Rattle.feed_bytes.specs.Trim.{trimmed}
use Rattle.feed_answer.specs.Pairs.{first}
use Rattle.feed_openurl.specs.Core.{core_date, core_volume}
use Rattle.feed_openurl.specs.Dates.{lenient_date}
use Rattle.feed_openurl.specs.Keys.{is_date_key, is_volume_key, keyed, or_text}
use Rattle.feed_openurl.specs.Plain.{plain}
use Rattle.feed_openurl.specs.Texts.{date_text_of, volume_text_of}
use Rattle.feed_openurl.specs.Romans.{roman_volume}
use Rattle.feed_openurl.specs.Volumes.{leading_volume, unless_year_of, without_series}
use Rattle.feed_openurl.specs.declared.key.Key.{Key}
use Rattle.feed_openurl.specs.declared.key.Tier.{Tier}
use Rattle.feed_openurl.specs.declared.key.Tier.TheVariants.{Old, Rft}

-- a value is a date in this tier
abbrev pub is_date : Tier → Key × List ℕ → Bool
is_date tier value = is_date_key tier value.0

-- the date of a value, if it has the form of the core's
abbrev pub strict_date_of : Tier → Key × List ℕ → Option (List ℕ)
strict_date_of tier value = if is_date tier value then date_text_of (trimmed value.1) else None

-- the date of a value in another form
abbrev pub lenient_date_of : Tier → Key × List ℕ → Option (List ℕ)
lenient_date_of tier value = if is_date tier value then lenient_date (plain value.1) else None

-- the first date of a tier in the form of the core, or else the first in another
abbrev pub date_in : Tier → List (Key × List ℕ) → Option (List ℕ)
date_in tier values = or_text (first (filter_map (strict_date_of tier) values)) (first (filter_map (lenient_date_of tier) values))

-- a value is a volume in this tier
abbrev pub is_volume : Tier → Key × List ℕ → Bool
is_volume tier value = is_volume_key tier value.0

-- the volume of a value, if it has the form of the core's
abbrev pub strict_volume_of : Tier → Key × List ℕ → Option (List ℕ)
strict_volume_of tier value = if is_volume tier value then volume_text_of (trimmed value.1) else None

-- the volume of a text in another form: its leading number, or else what it is as a Roman numeral, unless that is the
-- year of a date with a month
unfoldable pub lenient_volume : List ℕ → Option (List ℕ)
lenient_volume text =
    unless_year_of (lenient_date text) (or_text (leading_volume (without_series text)) (roman_volume text))

abbrev pub lenient_volume_of : Tier → Key × List ℕ → Option (List ℕ)
lenient_volume_of tier value = if is_volume tier value then lenient_volume (trimmed (plain value.1)) else None

-- the first volume of a tier in the form of the core, or else the first in another
abbrev pub volume_in : Tier → List (Key × List ℕ) → Option (List ℕ)
volume_in tier values = or_text (first (filter_map (strict_volume_of tier) values)) (first (filter_map (lenient_volume_of tier) values))

-- the date of an OpenURL: the core's, or else that of an `rft.` key, or else that of a key of 0.1
abbrev pub date_of : List (List ℕ × List ℕ) → Option (List ℕ)
date_of pairs = or_text (core_date pairs) (or_text (date_in Rft (map keyed pairs)) (date_in Old (map keyed pairs)))

-- the volume of an OpenURL
abbrev pub volume_of : List (List ℕ × List ℕ) → Option (List ℕ)
volume_of pairs = or_text (core_volume pairs) (or_text (volume_in Rft (map keyed pairs)) (volume_in Old (map keyed pairs)))
