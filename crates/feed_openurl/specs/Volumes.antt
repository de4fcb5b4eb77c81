-- The leading number of a volume that has more than a number, as `Vol. 9`, `365 (9453)` and `12-13`, and what is none.
use Rattle.std.specs.Prelude.{ℕ, Bool, false, ◌||◌, ◌&&◌, ◌==◌, nat_lt, List, [], ◌∷◌, length, Option, Some, None, option_map, if◌then◌else◌, take, drop, codes}
use Rattle.std.specs.Char.{is_ascii_alphabetic, is_ascii_digit}
use Rattle.std.specs.Str.{bytes_eq}
use Rattle.feed_answer.specs.Pairs.{is_empty}
use Rattle.feed_openurl.specs.Fronts.{front_len}
use Rattle.feed_openurl.specs.Keys.{after_in, after_prefix, is_name}
use Rattle.feed_openurl.specs.Texts.{volume_text_of}

-- a letter; `_` is one beyond ASCII
abbrev pub is_letter : ℕ → Bool
is_letter b = is_ascii_alphabetic b || (b == 95)

-- a sign that may come before a word or a number: a space, a dot, a colon, an opening bracket
abbrev pub is_filler : ℕ → Bool
is_filler b = (b == 32) || (b == 46) || (b == 58) || (b == 91) || (b == 40)

-- a text from its first word or number on
abbrev pub without_fillers : List ℕ → List ℕ
without_fillers text = drop (front_len is_filler text) text

-- the letters at the front of a text, and what follows them
abbrev pub letters : List ℕ → List ℕ
letters text = take (front_len is_letter text) text

abbrev pub after_letters : List ℕ → List ℕ
after_letters text = drop (front_len is_letter text) text

-- the digits at the front of a text, and what follows them
abbrev pub digits : List ℕ → List ℕ
digits text = take (front_len is_ascii_digit text) text

abbrev pub after_digits : List ℕ → List ℕ
after_digits text = drop (front_len is_ascii_digit text) text

-- a word for a volume, in English, and in German, French, Italian or Portuguese
abbrev pub is_english_word : List ℕ → Bool
is_english_word word = is_name word (codes "volume") || is_name word (codes "vol") || is_name word (codes "v") || is_name word (codes "vols")

abbrev pub is_other_word : List ℕ → Bool
is_other_word word =
    is_name word (codes "band") || is_name word (codes "bd") || is_name word (codes "tome") || is_name word (codes "tomo") || is_name word (codes "t")

-- a word for a volume, or none
abbrev pub is_volume_word : List ℕ → Bool
is_volume_word word = is_empty word || is_english_word word || is_other_word word

abbrev pub begins_with_letter : List ℕ → Bool
begins_with_letter [] = false
begins_with_letter (b ∷ bytes) = is_letter b

-- the number at the front of a text of one to nine digits, with no letter behind it
abbrev pub number_at_front : List ℕ → Option (List ℕ)
number_at_front text = if begins_with_letter (after_digits text) then None else volume_text_of (digits text)

-- the leading number of a value; before it there is at most a word for a volume
abbrev pub number_after_word : List ℕ → Option (List ℕ)
number_after_word text = if is_volume_word (letters text) then number_at_front (without_fillers (after_letters text)) else None

abbrev pub leading_volume : List ℕ → Option (List ℕ)
leading_volume value = number_after_word (without_fillers value)

-- what follows a number in brackets at the front of a text, if it has one
abbrev pub after_brackets : List ℕ → Option (List ℕ)
after_brackets text = after_in (codes ")") (option_map after_digits (after_prefix (codes "(") text))

abbrev pub begins_with_digit : List ℕ → Bool
begins_with_digit [] = false
begins_with_digit (b ∷ bytes) = is_ascii_digit b

-- a text behind a number in brackets, if it begins with a number itself, as `(2) 141` of a second series
abbrev pub or_behind : Option (List ℕ) → List ℕ → List ℕ
or_behind (Some rest) text = if begins_with_digit (without_fillers rest) then rest else text
or_behind None text = text

abbrev pub without_series : List ℕ → List ℕ
without_series text = or_behind (after_brackets text) text

-- a volume is the year of a date that has a month, as in `2018-January`
abbrev pub is_year_of : Option (List ℕ) → List ℕ → Bool
is_year_of (Some date) volume = nat_lt 4 (length date) && bytes_eq (take 4 date) volume
is_year_of None volume = false

abbrev pub unless_year_of : Option (List ℕ) → Option (List ℕ) → Option (List ℕ)
unless_year_of date (Some volume) = if is_year_of date volume then None else Some volume
unless_year_of date None = None
