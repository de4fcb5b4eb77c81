-- The part of a file that a Range value asks for (RFC 9110, sections 14.1.2 and 14.2).
use Rattle.std.specs.Prelude.{ℕ, ◌-◌, List, ◌++◌, length, nat_lt, nat_le, ◌==◌, min, codes, if◌then◌else◌}
use Rattle.std.specs.Prelude.{Option, Some, None, ⊤, ◌≡◌, ◌≤◌, ◌<◌, [], ◌∷◌, true}
use Rattle.std.specs.Option.{option_and_then, option_map, option_map_or}
use Rattle.std.specs.Str.{str_eq_ignore_ascii_case}
use Rattle.std.specs.Fmt.{decimal}
use Rattle.feed_bytes.specs.Split.{dash, strip_prefix, split_once, number_of, capped_number}
use Rattle.feed_range.specs.declared.range_ask.RangeAsk.{RangeAsk}
use Rattle.feed_range.specs.declared.range_ask.RangeAsk.TheVariants.{Whole, Part, Unsatisfied}

-- first-last: these places, as far as the file has them
abbrev pub places_between : ℕ → ℕ → ℕ → RangeAsk
places_between first last size =
    if nat_lt last first then Whole
    else (if nat_le size first then Unsatisfied else Part first (min last (size - 1)))

-- first-: all places from the first on
abbrev pub places_from : ℕ → ℕ → RangeAsk
places_from first size = if nat_le size first then Unsatisfied else Part first (size - 1)

-- -suffix: this many places at the end, or the whole file if it is shorter
abbrev pub last_places : ℕ → ℕ → RangeAsk
last_places suffix size =
    if suffix == 0 then Unsatisfied
    else (if size == 0 then Whole else Part (size - suffix) (size - 1))

-- the form depends on which of the texts around the dash is a number; the other text is empty
abbrev pub places_by_form : List ℕ → List ℕ → Option ℕ → Option ℕ → ℕ → RangeAsk
places_by_form before after (Some first) (Some last) size = places_between first last size
places_by_form before after (Some first) None size = if length after == 0 then places_from first size else Whole
places_by_form before after None (Some suffix) size = if length before == 0 then last_places suffix size else Whole
places_by_form before after None None size = Whole

-- what the texts around the dash ask for; a number past 64 bits counts as the greatest that fits
abbrev pub places_of : List ℕ → List ℕ → ℕ → RangeAsk
places_of before after size =
    places_by_form before after (option_map capped_number (number_of before)) (option_map capped_number (number_of after)) size

-- what the value asks for, from a file of this size
abbrev pub ask_of : List ℕ → ℕ → RangeAsk
ask_of value size =
    option_map_or (λ parts. places_of parts.0 parts.1 size)
    (option_and_then (split_once dash) (strip_prefix (codes "bytes=") value)) Whole

-- the value that asks for the places from first to last
abbrev pub ask_text : ℕ → ℕ → List ℕ
ask_text first last = codes "bytes=" ++ decimal first ++ codes "-" ++ decimal last

-- the requested range is inside a file of this size
abbrev pub IsInside : ℕ → RangeAsk → Type 0
IsInside size Whole = ⊤
IsInside size (Part first last) = (first ≤ last) × (last < size)
IsInside size Unsatisfied = ⊤

-- the value is `bytes=`, ignoring case, and these texts around a dash
pub record IsRangeValue (value before after : List ℕ) : Type 0 where
  pub unit : List ℕ
  pub is_unit : str_eq_ignore_ascii_case unit (codes "bytes=") ≡ true
  pub text_is : value ≡ unit ++ (before ++ dash ∷ after)

-- the value is first-last, with these numbers in digits
abbrev pub AsksBetween : List ℕ → ℕ → ℕ → Type 0
AsksBetween value first last =
    (before : List ℕ) × (after : List ℕ) × IsRangeValue value before after × (number_of before ≡ Some first) × (number_of after ≡ Some last)

-- the value is first-
abbrev pub AsksFrom : List ℕ → ℕ → Type 0
AsksFrom value first = (before : List ℕ) × IsRangeValue value before [] × (number_of before ≡ Some first)

-- the value is -suffix
abbrev pub AsksLast : List ℕ → ℕ → Type 0
AsksLast value suffix = (after : List ℕ) × IsRangeValue value [] after × (number_of after ≡ Some suffix)

-- the value has none of the three forms
pub record IsOtherValue (value : List ℕ) : Type 0 where
  pub not_between : (first last : ℕ) → ¬ (AsksBetween value first last)
  pub not_from : (first : ℕ) → ¬ (AsksFrom value first)
  pub not_last : (suffix : ℕ) → ¬ (AsksLast value suffix)

-- what a value asks for depends on its form; a value of any other form asks for the whole file
pub record AsksByForm (value : List ℕ) (size : ℕ) : Type 0 where
  pub between : (first last : ℕ) → AsksBetween value first last → ask_of value size ≡ places_between (capped_number first) (capped_number last) size
  pub from : (first : ℕ) → AsksFrom value first → ask_of value size ≡ places_from (capped_number first) size
  pub suffix : (suffix : ℕ) → AsksLast value suffix → ask_of value size ≡ last_places (capped_number suffix) size
  pub other : IsOtherValue value → ask_of value size ≡ Whole
