-- ISBNs (ISO 2108): of thirteen digits, or in the older form of ten characters, which converts to thirteen digits.
use Rattle.std.specs.Prelude.{◌≡◌, ℕ, ◌+◌, ◌-◌, ◌*◌, ◌%◌, ◌==◌, ◌&&◌, ◌||◌, nat_eq, Bool, true, List, [], ◌∷◌, ◌++◌, length, take, drop, slice_index}
use Rattle.std.specs.Prelude.{Option, Some, None, if◌then◌else◌, codes}
use Rattle.std.specs.List.{filter, list_all, starts_with}
use Rattle.std.specs.Char.{is_ascii_digit}
use Rattle.std.specs.Str.Parse.{digits_value}
use Rattle.feed_identifiers.specs.Check.{is_check_of, weighted_sum}
use Rattle.feed_bytes.specs.Trim.{trimmed, is_no_hyphen}

-- the weights of the twelve digits before the check digit
abbrev pub weights_of_thirteen : List ℕ
weights_of_thirteen = 1 ∷ 3 ∷ 1 ∷ 3 ∷ 1 ∷ 3 ∷ 1 ∷ 3 ∷ 1 ∷ 3 ∷ 1 ∷ 3 ∷ []

-- the weights of the nine digits before the check character of the older form
abbrev pub weights_of_ten : List ℕ
weights_of_ten = 10 ∷ 9 ∷ 8 ∷ 7 ∷ 6 ∷ 5 ∷ 4 ∷ 3 ∷ 2 ∷ []

-- the check digit of twelve digits: with it, and its weight 1, the weighted sum is divisible by 10
abbrev pub check_digit : List ℕ → ℕ
check_digit twelve = 48 + (10 - weighted_sum weights_of_thirteen twelve % 10) % 10

-- whether digits begin with 978 or 979
abbrev pub has_prefix : List ℕ → Bool
has_prefix digits = starts_with nat_eq digits (codes "978") || starts_with nat_eq digits (codes "979")

-- whether characters are thirteen digits that begin with 978 or 979 and end with their check digit
abbrev pub is_isbn_13 : List ℕ → Bool
is_isbn_13 characters =
    (length characters == 13) && list_all is_ascii_digit characters && has_prefix characters
    && (slice_index characters 12 == check_digit (take 12 characters))

-- whether characters are the older form: nine digits and their check character, with the weights 10 to 1
abbrev pub is_isbn_10 : List ℕ → Bool
is_isbn_10 characters = (length characters == 10) && is_check_of weights_of_ten (take 9 characters) (slice_index characters 9)

-- the thirteen digits of nine digits of the older form: 978, the nine digits, and a check digit of all twelve
abbrev pub isbn_13_of : List ℕ → List ℕ
isbn_13_of nine = codes "978" ++ nine ++ check_digit (codes "978" ++ nine) ∷ []

-- parses characters without hyphens into the thirteen digits of an ISBN
abbrev pub isbn_of_characters : List ℕ → Option (List ℕ)
isbn_of_characters characters =
    if is_isbn_13 characters then Some characters
    else if is_isbn_10 characters then Some (isbn_13_of (take 9 characters))
    else None

-- parses an ISBN into its thirteen digits: spaces at both ends and all hyphens are dropped
abbrev pub isbn_of : List ℕ → Option (List ℕ)
isbn_of text = isbn_of_characters (filter is_no_hyphen (trimmed text))

-- a text is the printed form of an ISBN: its thirteen digits
pub record IsIsbn (text : List ℕ) : Type 0 where
  pub valid : is_isbn_13 text ≡ true

-- the number formed by the third digit, counted from 8, and the nine digits after it: below 2,000,000,000
abbrev pub number_of : List ℕ → ℕ
number_of isbn = 1000000000 * (slice_index isbn 2 - 56) + digits_value 10 (take 9 (drop 3 isbn))
