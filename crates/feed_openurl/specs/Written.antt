-- The OpenURL 1.0 query of an OpenURL that is understood (Z39.88-2004, key/value format).
use Rattle.std.specs.Prelude.{ℕ, List, [], ◌∷◌, ◌++◌, map, Option, Some, None, codes}
use Rattle.form_urlencoded.specs.Form as form
use Rattle.feed_openurl.specs.Values.{OpenUrlValue}

-- a pair with this key
abbrev pub with_key : List ℕ → List ℕ → List ℕ × List ℕ
with_key key value = (key, value)

-- the version, the identifiers, the date and the volume, as pairs
abbrev pub version_pair : List ℕ × List ℕ
version_pair = with_key (codes "url_ver") (codes "Z39.88-2004")

abbrev pub issn_pairs : List (List ℕ) → List (List ℕ × List ℕ)
issn_pairs issns = map (with_key (codes "rft.issn")) issns

abbrev pub isbn_pairs : List (List ℕ) → List (List ℕ × List ℕ)
isbn_pairs isbns = map (with_key (codes "rft.isbn")) isbns

abbrev pub date_pairs : Option (List ℕ) → List (List ℕ × List ℕ)
date_pairs (Some date) = with_key (codes "rft.date") date ∷ []
date_pairs None = []

abbrev pub volume_pairs : Option (List ℕ) → List (List ℕ × List ℕ)
volume_pairs (Some volume) = with_key (codes "rft.volume") volume ∷ []
volume_pairs None = []

abbrev pub pairs_for : List (List ℕ) → List (List ℕ) → Option (List ℕ) → Option (List ℕ) → List (List ℕ × List ℕ)
pairs_for issns isbns date volume =
    version_pair ∷ (issn_pairs issns ++ (isbn_pairs isbns ++ (date_pairs date ++ volume_pairs volume)))

-- the most bytes of the text that is written: the version, the limit of ISBNs, a day, and a volume of nine digits
abbrev pub written_limit : ℕ
written_limit = 1532

-- the text of the query for these
abbrev pub written_of : List (List ℕ) → List (List ℕ) → Option (List ℕ) → Option (List ℕ) → List ℕ
written_of issns isbns date volume = form.extend_pairs [] (pairs_for issns isbns date volume)

-- the text of the query for what is understood
abbrev pub written : OpenUrlValue → List ℕ
written u = written_of u.issns u.isbns u.date u.volume
