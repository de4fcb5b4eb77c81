-- The coverage of a row as texts: its days, its volumes, and both in words.
use Rattle.std.specs.Prelude.{ℕ, ℤ, if◌then◌else◌, List, [], ◌++◌, codes, Option, option_map, unwrap_or}
use Rattle.std.specs.Fmt.{decimal}
use Rattle.std.specs.Option.{option_and_then}
use Rattle.feed_dates.specs.Days.{date_of_day}
use Rattle.feed_kbart.specs.RowValue.{RowValue}
use Rattle.feed_answer.specs.Pairs.{is_empty}

-- a day as `1996-03-01`, and a volume in digits; an open side of a coverage is empty
abbrev pub day_text : Option ℤ → List ℕ
day_text day = unwrap_or (option_and_then date_of_day day) []

abbrev pub volume_text : Option ℕ → List ℕ
volume_text volume = unwrap_or (option_map decimal volume) []

-- from a first to a last text, with the words before the first alone, before the last alone, and before both
abbrev pub span_words : List ℕ → List ℕ → List ℕ → List ℕ → List ℕ → List ℕ
span_words from until both first last =
    if is_empty first then (if is_empty last then [] else until ++ last)
    else if is_empty last then from ++ first else both ++ (first ++ (codes " to " ++ last))

-- the days of a row in words, such as `from 1996-03-01 to 2001-06-30`
unfoldable pub days_words : RowValue → List ℕ
days_words row = span_words (codes "from ") (codes "up to ") (codes "from ") (day_text row.first_day) (day_text row.last_day)

-- its volumes, such as `volumes 1 to 7`
unfoldable pub volumes_words : RowValue → List ℕ
volumes_words row =
    span_words (codes "from volume ") (codes "up to volume ") (codes "volumes ") (volume_text row.first_volume) (volume_text row.last_volume)
