-- The date and the volume that the core reads from the pairs of an OpenURL, whatever its length (Z39.88-2004, key/value
-- formats).
use Rattle.std.specs.Prelude.{ℕ, List, Option, None, if◌then◌else◌, codes}
use Rattle.std.specs.List.{filter_map}
use Rattle.feed_bytes.specs.Trim.{trimmed}
use Rattle.feed_answer.specs.Pairs.{first, has_key}
use Rattle.feed_openurl.specs.Texts.{date_text_of, volume_text_of}

-- the date that the core reads of a pair, as a text
abbrev pub date_of_pair : List ℕ × List ℕ → Option (List ℕ)
date_of_pair pair = if has_key (codes "rft.date") pair then date_text_of (trimmed pair.1) else None

-- the date that the core reads: the first valid one
abbrev pub core_date : List (List ℕ × List ℕ) → Option (List ℕ)
core_date pairs = first (filter_map date_of_pair pairs)

-- the volume that the core reads of a pair, as its digits
abbrev pub volume_of_pair : List ℕ × List ℕ → Option (List ℕ)
volume_of_pair pair = if has_key (codes "rft.volume") pair then volume_text_of (trimmed pair.1) else None

-- the volume that the core reads: the first valid one
abbrev pub core_volume : List (List ℕ × List ℕ) → Option (List ℕ)
core_volume pairs = first (filter_map volume_of_pair pairs)
