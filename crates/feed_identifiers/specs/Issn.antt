-- ISSNs (ISO 3297).
use Rattle.std.specs.Prelude.{◌≡◌, ℕ, ◌+◌, ◌*◌, ◌==◌, List, [], ◌∷◌, ◌++◌, length, take, drop, Option, Some, None, if◌then◌else◌}
use Rattle.std.specs.Str.Parse.{digits_value}
use Rattle.feed_identifiers.specs.Check.{capital, is_check_of}
use Rattle.feed_bytes.specs.Trim.{trimmed}

-- the weights of the seven digits before the check character
abbrev pub weights : List ℕ
weights = 8 ∷ 7 ∷ 6 ∷ 5 ∷ 4 ∷ 3 ∷ 2 ∷ []

-- the printed form of seven digits and a check character: a hyphen after the fourth digit, and a capital X
abbrev pub printed : List ℕ → ℕ → List ℕ
printed digits check = take 4 digits ++ 45 ∷ (drop 4 digits ++ capital check ∷ [])

-- the printed form of seven digits and a character, if it is their check character
abbrev pub issn_of_digits : List ℕ → ℕ → Option (List ℕ)
issn_of_digits digits check = if is_check_of weights digits check then Some (printed digits check) else None

-- a text is the printed form of an ISSN: seven digits and the right check character
pub record IsIssn (text : List ℕ) : Type 0 where
  pub digits : List ℕ
  pub check : ℕ
  pub seven : length digits ≡ 7
  pub made : issn_of_digits digits check ≡ Some text

-- the eight characters, with or without a hyphen after the fourth
abbrev pub issn_of_characters : List ℕ → Option (List ℕ)
issn_of_characters (a ∷ b ∷ c ∷ d ∷ e ∷ f ∷ g ∷ check ∷ []) = issn_of_digits (a ∷ b ∷ c ∷ d ∷ e ∷ f ∷ g ∷ []) check
issn_of_characters (a ∷ b ∷ c ∷ d ∷ hyphen ∷ e ∷ f ∷ g ∷ check ∷ []) =
    if hyphen == 45 then issn_of_digits (a ∷ b ∷ c ∷ d ∷ e ∷ f ∷ g ∷ []) check else None
issn_of_characters _ = None

-- parses an ISSN into its nine printed bytes
abbrev pub issn_of : List ℕ → Option (List ℕ)
issn_of text = issn_of_characters (trimmed text)

-- the number formed by the seven digits of a printed ISSN: the four before the hyphen and the three after it
abbrev pub number_of : List ℕ → ℕ
number_of issn = 1000 * digits_value 10 (take 4 issn) + digits_value 10 (take 3 (drop 5 issn))
