-- The text that a query for titles asks for, and the place where its walk begins.
use Rattle.std.specs.Prelude.{ℕ, nat_lt, ◌^◌, ◌||◌, not, if◌then◌else◌, List, [], ◌∷◌, codes, length, Option, Some, None, Result, Ok, Err}
use Rattle.std.specs.Option.{option_and_then}
use Rattle.std.specs.Str.{is_utf8}
use Rattle.form_urlencoded.specs.Form as form
use Rattle.feed_bytes.specs.Split.{number_in_64_bits}
use Rattle.feed_bytes.specs.Trim.{trimmed}
use Rattle.feed_answer.specs.Pairs.{has_key, is_empty}
use Rattle.node_titles.specs.declared.title_search.TitleFault.{TitleFault}
use Rattle.node_titles.specs.declared.title_search.TitleFault.TheVariants.{BadStart, NoText, TooLong}

-- the text and the place
pub record TitleSearchValue : Type 0 where
  pub text : List ℕ
  pub start : ℕ

-- the most bytes of the text: 256 UTF-16 units, which a browser counts, have at most that many
abbrev pub text_limit : ℕ
text_limit = 768

-- the first value with this key, or nothing
abbrev pub value_at : List ℕ → List (List ℕ × List ℕ) → List ℕ
value_at key [] = []
value_at key (pair ∷ pairs) = if has_key key pair then pair.1 else value_at key pairs

-- the number, if it fits in 32 bits
abbrev pub in_32_bits : ℕ → Option ℕ
in_32_bits number = if nat_lt number (2 ^ 32) then Some number else None

-- the place that a text gives; without one a walk begins at the first row
abbrev pub place_in : List ℕ → Option ℕ
place_in text = if is_empty text then Some 0 else option_and_then in_32_bits (number_in_64_bits text)

abbrev pub ask_from : List ℕ → Option ℕ → Result TitleSearchValue TitleFault
ask_from text None = Err BadStart
ask_from text (Some start) = Ok (record { text = text; start = start })

-- the first fault of a text and a place counts; a text that is not UTF-8 counts as missing, so that responses in JSON
-- stay UTF-8
abbrev pub ask_at : List ℕ → Option ℕ → Result TitleSearchValue TitleFault
ask_at text start =
    if is_empty text || not (is_utf8 text) then Err NoText
    else if nat_lt text_limit (length text) then Err TooLong
    else ask_from text start

-- what pairs ask for: the text of `q`, without spaces at both ends, from the place `start` on
abbrev pub ask_by : List (List ℕ × List ℕ) → Result TitleSearchValue TitleFault
ask_by pairs = ask_at (trimmed (value_at (codes "q") pairs)) (place_in (value_at (codes "start") pairs))

-- the same of the bytes of a query
unfoldable pub ask_of : List ℕ → Result TitleSearchValue TitleFault
ask_of query = ask_by (form.parse query)
