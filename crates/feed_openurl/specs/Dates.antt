-- The first date in a value that has another form than the core's, such as `20 Oct 2005`, `Oct-Nov 2005`, `1996-1997` and
-- `Spring 2004`.
use Rattle.std.specs.Prelude.{ℕ, Bool, true, false, ◌+◌, ◌-◌, ◌*◌, ◌/◌, ◌%◌, ◌||◌, ◌&&◌, ◌==◌, not, nat_lt}
use Rattle.std.specs.Prelude.{min, List, [], ◌∷◌, ◌++◌, length, take, drop, filter, Option, Some, None, is_some, if◌then◌else◌, codes}
use Rattle.std.specs.Char.{is_ascii_digit}
use Rattle.std.specs.List.{cons_option, list_any}
use Rattle.std.specs.Str.{bytes_eq}
use Rattle.feed_bytes.specs.Trim.{trimmed}
use Rattle.feed_openurl.specs.Fronts.{front_len}
use Rattle.feed_openurl.specs.Keys.{is_name, or_text}
use Rattle.feed_openurl.specs.Texts.{date_text_of}
use Rattle.feed_openurl.specs.Volumes.{is_letter}
use Rattle.feed_openurl.specs.declared.tokens.Token.{Token}
use Rattle.feed_openurl.specs.declared.tokens.Token.TheVariants.{Mark, Month, Packed, Season, Small, Word, Year}

-- two digits of a number below 100, and the number of two digits
abbrev pub two_digits : ℕ → List ℕ
two_digits number = (48 + number / 10 % 10) ∷ (48 + number % 10) ∷ []

abbrev pub number_of_two : ℕ → ℕ → ℕ
number_of_two a b = 10 * min (a - 48) 9 + min (b - 48) 9

-- the longest part of a date that the calendar has: the day, the month or the year
abbrev pub date_of_parts : List ℕ → ℕ → ℕ → Option (List ℕ)
date_of_parts year month day =
    or_text (date_text_of (year ++ (two_digits month ++ two_digits day))) (or_text (date_text_of (year ++ two_digits month)) (date_text_of year))

-- a run of digits: one or two are a small number, four a year, six or eight a year with a month, and a day
abbrev pub number_token : List ℕ → Token
number_token (a ∷ []) = Small (number_of_two 48 a)
number_token (a ∷ b ∷ []) = Small (number_of_two a b)
number_token (a ∷ b ∷ c ∷ d ∷ []) = Year (a ∷ b ∷ c ∷ d ∷ [])
number_token (a ∷ b ∷ c ∷ d ∷ e ∷ f ∷ []) = Packed (a ∷ b ∷ c ∷ d ∷ []) (number_of_two e f) 0
number_token (a ∷ b ∷ c ∷ d ∷ e ∷ f ∷ g ∷ h ∷ []) = Packed (a ∷ b ∷ c ∷ d ∷ []) (number_of_two e f) (number_of_two g h)
number_token _ = Word

-- a word is one of two, in any case
abbrev pub is_one : List ℕ → List ℕ → List ℕ → Bool
is_one word short long = is_name word short || is_name word long

-- the month of the second half of a year that a word names
abbrev pub late_month_of : List ℕ → Option ℕ
late_month_of word =
    if is_one word (codes "jul") (codes "july") then Some 7
    else if is_one word (codes "aug") (codes "august") then Some 8
    else if is_one word (codes "sep") (codes "september") || is_name word (codes "sept") then Some 9
    else if is_one word (codes "oct") (codes "october") then Some 10
    else if is_one word (codes "nov") (codes "november") then Some 11
    else if is_one word (codes "dec") (codes "december") then Some 12
    else None

-- the month that a word names: its name in English, or the first three letters of it
abbrev pub month_of : List ℕ → Option ℕ
month_of word =
    if is_one word (codes "jan") (codes "january") then Some 1
    else if is_one word (codes "feb") (codes "february") then Some 2
    else if is_one word (codes "mar") (codes "march") then Some 3
    else if is_one word (codes "apr") (codes "april") then Some 4
    else if is_one word (codes "may") (codes "may") then Some 5
    else if is_one word (codes "jun") (codes "june") then Some 6
    else late_month_of word

-- a word names a season: its name in English, or the first three letters of it
abbrev pub names_season : List ℕ → Bool
names_season word =
    is_one word (codes "spr") (codes "spring") || is_one word (codes "sum") (codes "summer") || is_one word (codes "aut") (codes "autumn")
    || is_one word (codes "fal") (codes "fall") || is_one word (codes "win") (codes "winter")

abbrev pub word_token : List ℕ → Option ℕ → Token
word_token word (Some month) = Month month
word_token word None = if names_season word then Season else Word

-- a word that makes an ordinal of the number before it
abbrev pub is_ordinal : List ℕ → Bool
is_ordinal word = is_one word (codes "st") (codes "nd") || is_one word (codes "rd") (codes "th")

-- a run of digits, of letters, or one other byte, as a token; a space is none
abbrev pub token_of : List ℕ → Option Token
token_of [] = None
token_of (b ∷ bytes) =
    if is_ascii_digit b then Some (number_token (b ∷ bytes))
    else if is_letter b then (if is_ordinal (b ∷ bytes) then None else Some (word_token (b ∷ bytes) (month_of (b ∷ bytes))))
    else if nat_lt 32 b then Some (Mark b)
    else None

-- a byte belongs to a run
abbrev pub joins : List ℕ → ℕ → Bool
joins [] b = false
joins (a ∷ run) b = (is_ascii_digit a && is_ascii_digit b) || (is_letter a && is_letter b)

-- the tokens of a text whose first run has begun
abbrev pub tokens_from : List ℕ → List ℕ → List Token
tokens_from run [] = cons_option (token_of run) []
tokens_from run (b ∷ bytes) =
    if joins run b then tokens_from (run ++ b ∷ []) bytes
    else cons_option (token_of run) (tokens_from (b ∷ []) bytes)

-- a year from 1000 to 2099
abbrev pub plausible : List ℕ → Option (List ℕ)
plausible (a ∷ b ∷ year) = if (a == 49) || ((a == 50) && (b == 48)) then Some (a ∷ b ∷ year) else None
plausible _ = None

abbrev pub year_of : Token → Option (List ℕ)
year_of (Year year) = plausible year
year_of (Packed year month day) = plausible year
year_of _ = None

-- the first year
abbrev pub first_year : List Token → Option (List ℕ)
first_year [] = None
first_year (token ∷ tokens) = or_text (year_of token) (first_year tokens)

-- a mark between the parts of a date
abbrev pub is_between : ℕ → Bool
is_between mark = (mark == 45) || (mark == 47) || (mark == 46)

-- the small number at the front, or 0; a mark may be before it
abbrev pub day_after : List Token → ℕ
day_after (Small day ∷ tokens) = day
day_after (Mark mark ∷ Small day ∷ tokens) = if is_between mark || (mark == 44) then day else 0
day_after _ = 0

-- the first month that is named, with the small number beside it, or 0
abbrev pub named_month : ℕ → List Token → Option (ℕ × ℕ)
named_month before [] = None
named_month before (Month month ∷ tokens) = Some (month, if nat_lt 0 before then before else day_after tokens)
named_month before (Small day ∷ tokens) = named_month day tokens
named_month before (Mark mark ∷ tokens) = named_month (if is_between mark then before else 0) tokens
named_month before (Year year ∷ tokens) = named_month 0 tokens
named_month before (Packed year month day ∷ tokens) = named_month 0 tokens
named_month before (Season ∷ tokens) = named_month 0 tokens
named_month before (Word ∷ tokens) = named_month 0 tokens

abbrev pub is_small : Token → Bool
is_small (Small number) = true
is_small _ = false

abbrev pub is_month : Token → Bool
is_month (Month month) = true
is_month _ = false

-- the small number beside a month is its day if the text has one small number and one month
abbrev pub is_single : List Token → Bool
is_single tokens = (length (filter is_small tokens) == 1) && (length (filter is_month tokens) == 1)

abbrev pub is_before : ℕ → Token → Bool
is_before month (Month other) = nat_lt other month
is_before month _ = false

abbrev pub has_year : Token → Bool
has_year token = is_some (year_of token)

-- the months pass the end of a year, and only one year is named, as in `Dec-Jan 2006`: the month that it belongs to is
-- unknown
abbrev pub pass_a_year : List Token → ℕ → Bool
pass_a_year tokens month = list_any (is_before month) tokens && (length (filter has_year tokens) == 1)

-- the date of a year and a month that is named
abbrev pub date_in_month : List Token → List ℕ → ℕ × ℕ → Option (List ℕ)
date_in_month tokens year named = date_of_parts year named.0 (if is_single tokens then named.1 else 0)

-- the date of a year and the first month that is named
abbrev pub named_date : List Token → List ℕ → ℕ × ℕ → Option (List ℕ)
named_date tokens year named = if pass_a_year tokens named.0 then date_of_parts year 0 0 else date_in_month tokens year named

-- the date of three numbers with the year last: with dots the day is first, otherwise the number above 12 is the day,
-- and two that could change places are neither
abbrev pub date_with_year_last : ℕ → ℕ → ℕ → List ℕ → Option (List ℕ)
date_with_year_last first mark second year =
    if (mark == 46) || nat_lt 12 first || (first == second) then date_of_parts year second first
    else if nat_lt 12 second then date_of_parts year first second
    else date_of_parts year 0 0

abbrev pub year_last_of : Option (List ℕ) → ℕ → ℕ → ℕ → Option (List ℕ)
year_last_of (Some year) first mark second = date_with_year_last first mark second year
year_last_of None first mark second = None

abbrev pub year_last : List Token → Option (List ℕ)
year_last (Small first ∷ Mark mark ∷ Small second ∷ Mark other ∷ last ∷ tokens) =
    if is_between mark && (mark == other) then year_last_of (year_of last) first mark second else None
year_last _ = None

-- the small number behind the same mark, or 0
abbrev pub day_behind : ℕ → List Token → ℕ
day_behind mark (Mark other ∷ Small day ∷ tokens) = if mark == other then day else 0
day_behind mark _ = 0

abbrev pub numbered : List ℕ → ℕ → ℕ → ℕ → Option (List ℕ)
numbered year mark month day = if is_between mark then date_of_parts year month day else date_of_parts year 0 0

-- the date of a year and of the numbers behind it
abbrev pub date_after_year : List ℕ → List Token → Option (List ℕ)
date_after_year year (Mark mark ∷ Small month ∷ tokens) = numbered year mark month (day_behind mark tokens)
date_after_year year _ = date_of_parts year 0 0

abbrev pub year_first_of : Option (List ℕ) → Token → List Token → Option (List ℕ)
year_first_of None token tokens = None
year_first_of (Some year) (Packed all month day) tokens = date_of_parts year month day
year_first_of (Some year) token tokens = date_after_year year tokens

-- the first date in numbers
abbrev pub numeric_date : List Token → Option (List ℕ)
numeric_date [] = None
numeric_date (token ∷ tokens) =
    or_text (year_last (token ∷ tokens)) (or_text (year_first_of (year_of token) token tokens) (numeric_date tokens))

abbrev pub is_season : Token → Bool
is_season Season = true
is_season _ = false

-- the first date among some tokens: there is none without a year; the name of a month counts before numbers; beside the
-- name of a season the numbers do not give a month, as in `Winter 2005-06`
abbrev pub date_of_named : List Token → List ℕ → Option (ℕ × ℕ) → Option (List ℕ)
date_of_named tokens year (Some named) = named_date tokens year named
date_of_named tokens year None = if list_any is_season tokens then date_of_parts year 0 0 else numeric_date tokens

abbrev pub date_with_year : List Token → Option (List ℕ) → Option (List ℕ)
date_with_year tokens (Some year) = date_of_named tokens year (named_month 0 tokens)
date_with_year tokens None = None

abbrev pub date_among : List Token → Option (List ℕ)
date_among tokens = date_with_year tokens (first_year tokens)

-- a text ends in a hyphen, as `1936-` for all years since
abbrev pub is_open : List ℕ → Bool
is_open text = bytes_eq (drop (length text - 1) text) (codes "-")

-- a date, unless it is the year in which a run of years begins that has no end
abbrev pub closed : Bool → Option (List ℕ) → Option (List ℕ)
closed is_open_run (Some date) = if is_open_run && (length date == 4) then None else Some date
closed is_open_run None = None

-- the date of a part of a value
abbrev pub date_of_part : List ℕ → Option (List ℕ)
date_of_part text = closed (is_open (trimmed text)) (date_among (tokens_from [] text))

abbrev pub is_no_semicolon : ℕ → Bool
is_no_semicolon b = not (b == 59)

abbrev pub before_semicolon : List ℕ → List ℕ
before_semicolon value = take (front_len is_no_semicolon value) value

abbrev pub from_semicolon : List ℕ → List ℕ
from_semicolon value = drop (front_len is_no_semicolon value) value

-- the date before a semicolon, or else behind it
abbrev pub lenient_date : List ℕ → Option (List ℕ)
lenient_date value = or_text (date_of_part (before_semicolon value)) (date_of_part (from_semicolon value))
