-- The meaning of a query's key/value pairs (ANSI/NISO Z39.88-2004, key/value formats of journals and books).
use Rattle.std.specs.Prelude.{ℕ, ◌&&◌, ◌||◌, not, Bool, true, false, List, [], ◌∷◌, Option, Some, None, if◌then◌else◌, option_map, take, drop, length, codes}
use Rattle.std.specs.List.{filter_map}
use Rattle.std.specs.Option.{option_and_then}
use Rattle.std.specs.Str.{bytes_eq, str_eq_ignore_ascii_case}
use Rattle.feed_identifiers.specs.Identifier.{isbn_in, issn_in}
use Rattle.feed_identifiers.specs.Isbn.{isbn_of}
use Rattle.feed_identifiers.specs.Issn.{issn_of}
use Rattle.feed_identifiers.specs.declared.identifier.Identifier.{Identifier}
use Rattle.feed_identifiers.specs.declared.identifier.Identifier.TheVariants.{Issn, Isbn}
use Rattle.feed_bytes.specs.Trim.{trimmed}
use Rattle.feed_kbart.specs.Volumes.{volume_of}
use Rattle.feed_dates.specs.DayRanges.{query_days_of}
use Rattle.feed_dates.specs.declared.day_range.DayRange.{DayRange}
use Rattle.feed_answer.specs.IdentifierSet.{identifier_set}

-- the key of a pair is this text
abbrev pub has_key : List ℕ → List ℕ × List ℕ → Bool
has_key key pair = bytes_eq pair.0 key

-- a list is empty
abbrev pub is_empty : {A : Type 0} → List A → Bool
is_empty [] = true
is_empty (x ∷ xs) = false

-- a pair has this key, and a value that is neither empty nor the expected one
abbrev pub is_other : List ℕ → List ℕ → List ℕ × List ℕ → Bool
is_other key wanted pair = has_key key pair && not (is_empty pair.1) && not (bytes_eq pair.1 wanted)

-- a pair names another version of the standard
abbrev pub is_other_version : List ℕ × List ℕ → Bool
is_other_version pair =
    is_other (codes "url_ver") (codes "Z39.88-2004") pair || is_other (codes "ctx_ver") (codes "Z39.88-2004") pair

-- the format of journals, and that of books
abbrev pub journal_format : List ℕ
journal_format = codes "info:ofi/fmt:kev:mtx:journal"

abbrev pub book_format : List ℕ
book_format = codes "info:ofi/fmt:kev:mtx:book"

-- a pair names this format
abbrev pub has_format : List ℕ → List ℕ × List ℕ → Bool
has_format format pair = has_key (codes "rft_val_fmt") pair && bytes_eq pair.1 format

-- a pair names a format that is neither that of journals nor that of books
abbrev pub is_other_format : List ℕ × List ℕ → Bool
is_other_format pair = is_other (codes "rft_val_fmt") journal_format pair && not (bytes_eq pair.1 book_format)

-- a text begins with this prefix, ignoring the case of ASCII letters
abbrev pub has_prefix : List ℕ → List ℕ → Bool
has_prefix front text = str_eq_ignore_ascii_case (take (length front) text) front

-- the ISSN of a `urn:ISSN:` name (RFC 3044)
abbrev pub issn_of_urn : List ℕ → Option (List ℕ)
issn_of_urn name = if has_prefix (codes "urn:ISSN:") name then issn_of (drop 9 name) else None

-- the identifier that a pair names
abbrev pub identifier_of_pair : List ℕ × List ℕ → Option Identifier
identifier_of_pair pair =
    if has_key (codes "rft.issn") pair || has_key (codes "rft.eissn") pair then option_map Issn (issn_of pair.1)
    else if has_key (codes "rft_id") pair then option_map Issn (issn_of_urn pair.1)
    else if has_key (codes "rft.isbn") pair then option_map Isbn (isbn_of pair.1)
    else None

-- the ISSN that a pair names, and its ISBN
abbrev pub issn_of_pair : List ℕ × List ℕ → Option (List ℕ)
issn_of_pair pair = option_and_then issn_in (identifier_of_pair pair)

abbrev pub isbn_of_pair : List ℕ × List ℕ → Option (List ℕ)
isbn_of_pair pair = option_and_then isbn_in (identifier_of_pair pair)

-- the ISSNs that the pairs name, and the ISBNs, each as a set
abbrev pub issns_among : List (List ℕ × List ℕ) → List (List ℕ)
issns_among pairs = identifier_set (filter_map issn_of_pair pairs)

abbrev pub isbns_among : List (List ℕ × List ℕ) → List (List ℕ)
isbns_among pairs = identifier_set (filter_map isbn_of_pair pairs)

-- the days of a date pair whose value, trimmed, is a valid date
abbrev pub days_of_pair : List ℕ × List ℕ → Option DayRange
days_of_pair pair = if has_key (codes "rft.date") pair then query_days_of (trimmed pair.1) else None

-- the number of a volume pair whose value, trimmed, is a valid volume
abbrev pub volume_of_pair : List ℕ × List ℕ → Option ℕ
volume_of_pair pair = if has_key (codes "rft.volume") pair then volume_of (trimmed pair.1) else None

-- the first element
abbrev pub first : {A : Type 0} → List A → Option A
first [] = None
first (x ∷ xs) = Some x

-- the days of the first valid date
abbrev pub first_days : List (List ℕ × List ℕ) → Option DayRange
first_days pairs = first (filter_map days_of_pair pairs)

-- the number of the first valid volume
abbrev pub first_volume : List (List ℕ × List ℕ) → Option ℕ
first_volume pairs = first (filter_map volume_of_pair pairs)
