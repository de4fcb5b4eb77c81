-- DOIs (ISO 26324) and the numbers of PubMed, by themselves or in the URIs that name them.
use Rattle.std.specs.Prelude.{ℕ, Bool, false, ◌||◌, ◌&&◌, ◌==◌, ◌-◌, not, nat_lt, List, ◌∷◌, Option, Some, None, if◌then◌else◌, length, take, drop, codes}
use Rattle.std.specs.List.{list_all}
use Rattle.std.specs.Char.{is_ascii_digit}
use Rattle.std.specs.Str.{bytes_eq}
use Rattle.feed_bytes.specs.Trim.{trimmed}
use Rattle.feed_answer.specs.Pairs.{is_empty}
use Rattle.feed_openurl.specs.Fronts.{front_len}
use Rattle.feed_openurl.specs.Identifiers.{host_of}
use Rattle.feed_openurl.specs.Keys.{after_in, after_prefix, or_text}

-- what follows the name of a scheme of DOIs
abbrev pub after_doi_name : List ℕ → Option (List ℕ)
after_doi_name name =
    or_text (after_prefix (codes "info:doi/") name) (or_text (after_prefix (codes "info:doi:") name)
    (or_text (after_prefix (codes "urn:doi:") name) (after_prefix (codes "doi:") name)))

-- what follows the address of a resolver of DOIs
abbrev pub after_doi_host : List ℕ → Option (List ℕ)
after_doi_host name = or_text (after_in (codes "doi.org/") (host_of name)) (after_in (codes "dx.doi.org/") (host_of name))

-- a name without what makes a DOI a URI
abbrev pub trimmed_or : Option (List ℕ) → List ℕ → List ℕ
trimmed_or (Some rest) name = trimmed rest
trimmed_or None name = name

abbrev pub without_doi : List ℕ → List ℕ
without_doi name = trimmed_or (or_text (after_doi_name name) (after_doi_host name)) name

-- a byte in the number of a registrant: a digit or a dot
abbrev pub is_registrant : ℕ → Bool
is_registrant b = is_ascii_digit b || (b == 46)

-- a slash, and something after it
abbrev pub begins_suffix : List ℕ → Bool
begins_suffix (slash ∷ b ∷ more) = slash == 47
begins_suffix text = false

-- the number of a registrant, a slash, and a suffix
abbrev pub is_registered : List ℕ → Bool
is_registered text = nat_lt 0 (front_len is_registrant text) && begins_suffix (drop (front_len is_registrant text) text)

abbrev pub is_registered_in : Option (List ℕ) → Bool
is_registered_in (Some text) = is_registered text
is_registered_in None = false

-- a DOI: `10.`, the number of a registrant, a slash, and a suffix
abbrev pub is_doi : List ℕ → Bool
is_doi name = is_registered_in (after_prefix (codes "10.") name)

abbrev pub only_doi : List ℕ → Option (List ℕ)
only_doi name = if is_doi name then Some name else None

-- the DOI of a value, under at most three names of schemes
abbrev pub doi_of : List ℕ → Option (List ℕ)
doi_of value = only_doi (without_doi (without_doi (without_doi (trimmed value))))

-- a text without a slash at its end
abbrev pub without_slash : List ℕ → List ℕ
without_slash text =
    if bytes_eq (drop (length text - 1) text) (codes "/") then take (length text - 1) text else text

-- one to nine digits
abbrev pub is_pmid : List ℕ → Bool
is_pmid number = not (is_empty number) && nat_lt (length number) 10 && list_all is_ascii_digit number

abbrev pub only_pmid : List ℕ → Option (List ℕ)
only_pmid number = if is_pmid number then Some number else None

abbrev pub only_pmid_in : Option (List ℕ) → Option (List ℕ)
only_pmid_in (Some text) = only_pmid (without_slash (trimmed text))
only_pmid_in None = None

-- what follows the name of a scheme of PubMed
abbrev pub after_pmid_name : List ℕ → Option (List ℕ)
after_pmid_name name =
    or_text (after_prefix (codes "info:pmid/") name)
    (or_text (after_prefix (codes "pmid:") name) (after_prefix (codes "medline:") name))

-- what follows an address of PubMed
abbrev pub after_pmid_host : List ℕ → Option (List ℕ)
after_pmid_host name =
    or_text (after_in (codes "pubmed.ncbi.nlm.nih.gov/") (host_of name)) (after_in (codes "www.ncbi.nlm.nih.gov/pubmed/") (host_of name))

abbrev pub after_pmid : List ℕ → Option (List ℕ)
after_pmid name = or_text (after_pmid_name name) (after_pmid_host name)

-- the number in PubMed of a value that says that it is one
abbrev pub pmid_of : List ℕ → Option (List ℕ)
pmid_of value = only_pmid_in (after_pmid (trimmed value))

-- the same of a value that need not say so
abbrev pub bare_pmid_of : List ℕ → Option (List ℕ)
bare_pmid_of value = or_text (pmid_of value) (only_pmid (without_slash (trimmed value)))
