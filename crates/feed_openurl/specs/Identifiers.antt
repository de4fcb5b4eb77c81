-- The identifiers that are looked up for an OpenURL: those of each key of its citation.
use Rattle.std.specs.Prelude.{◌+◌, ◌&&◌, not, nat_lt, ℕ, Bool, List, [], ◌∷◌, length, map, Option, Some, None, if◌then◌else◌, codes}
use Rattle.std.specs.List.{filter_map, flat_map, list_any}
use Rattle.feed_bytes.specs.Trim.{trimmed}
use Rattle.feed_identifiers.specs.Identifier.{isbn_in, issn_in}
use Rattle.feed_answer.specs.IdentifierSet.{identifier_set}
use Rattle.feed_answer.specs.Pairs.{identifier_of_pair, is_empty}
use Rattle.feed_openurl.specs.Keys.{after_in, after_prefix, keyed, or_text}
use Rattle.feed_openurl.specs.Kinds.{formats_of, names_other_format, names_other_version}
use Rattle.feed_openurl.specs.Numbers.{numbers_in}
use Rattle.feed_openurl.specs.declared.fault.OpenUrlFault.{OpenUrlFault}
use Rattle.feed_openurl.specs.declared.fault.OpenUrlFault.TheVariants as reason
use Rattle.feed_openurl.specs.declared.kind.FormatNames.{FormatNames}
use Rattle.feed_openurl.specs.declared.key.Key.{Key}
use Rattle.feed_openurl.specs.declared.key.Key.TheVariants.{Name, Number}
use Rattle.feed_identifiers.specs.declared.identifier.Identifier.{Identifier}

-- the most identifiers of an OpenURL that are looked up
abbrev pub identifier_limit : ℕ
identifier_limit = 64

-- how many identifiers there are
abbrev pub count : List (List ℕ) → List (List ℕ) → ℕ
count issns isbns = length issns + length isbns

-- the host and the path of an address
abbrev pub host_of : List ℕ → Option (List ℕ)
host_of name = or_text (after_prefix (codes "https://") name) (after_prefix (codes "http://") name)

-- the number in a `urn:ISSN:` name (RFC 3044) or a `urn:ISBN:` name (RFC 3187, RFC 8254)
abbrev pub after_urn : List ℕ → Option (List ℕ)
after_urn name = or_text (after_prefix (codes "urn:issn:") name) (after_prefix (codes "urn:isbn:") name)

-- the number in an address of the ISSN Portal
abbrev pub after_portal : List ℕ → Option (List ℕ)
after_portal name =
    or_text (after_in (codes "portal.issn.org/resource/issn/") (host_of name)) (after_in (codes "issn.org/resource/issn/") (host_of name))

abbrev pub number_in : List ℕ → Option (List ℕ)
number_in value = or_text (after_urn (trimmed value)) (after_portal (trimmed value))

-- the text in which numbers are looked for: the value of a key of numbers, or the number in a name
abbrev pub number_text : Key × List ℕ → Option (List ℕ)
number_text (Number, value) = Some value
number_text (Name tier, value) = number_in value
number_text _ = None

abbrev pub numbers_in_text : Option (List ℕ) → List Identifier
numbers_in_text (Some text) = numbers_in text
numbers_in_text None = []

-- one number, or others if there is none
abbrev pub number_or_others : Option Identifier → List Identifier → List Identifier
number_or_others (Some found) others = found ∷ []
number_or_others None others = others

-- the numbers of a pair: the one that the core reads, or else those in its value
unfoldable pub numbers_of_pair : List ℕ × List ℕ → List Identifier
numbers_of_pair pair = number_or_others (identifier_of_pair pair) (numbers_in_text (number_text (keyed pair)))

-- the identifiers of an OpenURL
pub record IdentifiersValue : Type 0 where
  pub issns : List (List ℕ)
  pub isbns : List (List ℕ)

-- the numbers as sets
abbrev pub identifiers_among : List Identifier → IdentifiersValue
identifiers_among found =
    record { issns = identifier_set (filter_map issn_in found); isbns = identifier_set (filter_map isbn_in found) }

-- the identifiers of an OpenURL: those of all its pairs, whatever its formats are
abbrev pub identifiers_of : List (List ℕ × List ℕ) → IdentifiersValue
identifiers_of pairs = identifiers_among (flat_map numbers_of_pair pairs)

-- there are none
abbrev pub are_none : IdentifiersValue → Bool
are_none found = is_empty found.issns && is_empty found.isbns

-- what is looked up: identifiers, or none and the reason
pub record LookedUp : Type 0 where
  pub issns : List (List ℕ)
  pub isbns : List (List ℕ)
  pub refusal : Option OpenUrlFault

abbrev pub refused : OpenUrlFault → LookedUp
refused reason = record { issns = []; isbns = []; refusal = Some reason }

-- more than the limit are refused
abbrev pub within_limit : IdentifiersValue → LookedUp
within_limit found =
    if nat_lt identifier_limit (count found.issns found.isbns) then refused reason.TooMany
    else record { issns = found.issns; isbns = found.isbns; refusal = None }

-- why an OpenURL without identifiers is refused: for its version, or else for its format
abbrev pub reason_by : FormatNames → OpenUrlFault
reason_by formats = if formats.book && not formats.journal then reason.NoIsbn else reason.NoIssn

abbrev pub reason_without : List (Key × List ℕ) → OpenUrlFault
reason_without values =
    if list_any names_other_version values then reason.Version
    else if list_any names_other_format values then reason.OtherFormat
    else reason_by (formats_of values)

-- what is looked up for an OpenURL
abbrev pub looked_up : List (List ℕ × List ℕ) → LookedUp
looked_up pairs =
    if are_none (identifiers_of pairs) then refused (reason_without (map keyed pairs)) else within_limit (identifiers_of pairs)
