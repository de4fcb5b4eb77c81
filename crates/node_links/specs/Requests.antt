-- The addresses of forms and of articles, with the parts of a citation in their places.
use Rattle.std.specs.Prelude.{ℕ, ◌==◌, ◌||◌, Bool, true, false, not, nat_lt, List, [], ◌∷◌, ◌++◌, Option, Some, None, if◌then◌else◌, codes, drop, filter, length, take}
use Rattle.std.specs.List.{flat_map, list_all}
use Rattle.std.specs.Str.{bytes_eq}
use Rattle.percent_encoding.specs.Percent.{percent_encode}
use Rattle.percent_encoding.specs.declared.ascii_set.TheConstants.{NON_ALPHANUMERIC}
use Rattle.feed_openurl.specs.Citations.{CitationValue, text_at}
use Rattle.feed_citation.specs.declared.citation_part.CitationPart.{CitationPart}
use Rattle.feed_citation.specs.declared.citation_part.CitationPart.TheVariants as part
use Rattle.feed_citation.specs.declared.citation_part.TheConstants.{PARTS}
use Rattle.node_site.specs.Fields.{field_named}
use Rattle.node_site.specs.Hosts.{is_link}
use Rattle.node_site.specs.declared.field.Field.{Field}
use Rattle.node_site.specs.declared.field.Field.TheVariants.{Issn, IssnPlain, Isbn, TitleId, Year, Month, Query, Cited}

-- a citation, the identifiers of a query, its date as it is understood, such as `1996-03`, and the `title_id` of a row; an
-- absent one is empty
pub record CitedTitleValue : Type 0 where
  pub citation : CitationValue
  pub issn : List ℕ
  pub isbn : List ℕ
  pub date : List ℕ
  pub title_id : List ℕ

-- each byte that is not a letter or a digit is escaped
abbrev pub escaped : List ℕ → List ℕ
escaped text = percent_encode NON_ALPHANUMERIC text

-- the key of a part in OpenURL 1.0, behind the pairs before it
abbrev pub key_of : CitationPart → List ℕ
key_of part.Article = codes "&rft.atitle="
key_of part.Title = codes "&rft.title="
key_of part.Author = codes "&rft.au="
key_of part.Date = codes "&rft.date="
key_of part.Volume = codes "&rft.volume="
key_of part.Issue = codes "&rft.issue="
key_of part.Page = codes "&rft.spage="
key_of part.Doi = codes "&rft_id=info%3Adoi%2F"
key_of part.Pmid = codes "&rft_id=info%3Apmid%2F"
key_of part.Genre = codes "&rft.genre="
key_of part.LastName = codes "&rft.aulast="
key_of part.FirstName = codes "&rft.aufirst="
key_of part.LastPage = codes "&rft.epage="
key_of part.Pages = codes "&rft.pages="
key_of part.Series = codes "&rft.series="
key_of part.Edition = codes "&rft.edition="
key_of part.Publisher = codes "&rft.pub="
key_of part.Place = codes "&rft.place="
key_of part.Institution = codes "&rft.inst="

-- a pair of a query, unless its value is absent
abbrev pub pair_text : List ℕ → List ℕ → List ℕ
pair_text key [] = []
pair_text key (b ∷ text) = key ++ escaped (b ∷ text)

-- the most bytes of a value in a link, before they are escaped; a longer value counts as absent
abbrev pub value_limit : ℕ
value_limit = 1000

abbrev pub if_short : List ℕ → List ℕ
if_short text = if nat_lt value_limit (length text) then [] else text

-- a part of a citation, as links have it
abbrev pub part_value : CitationValue → CitationPart → List ℕ
part_value citation part = if_short (text_at citation part)

abbrev pub part_pair : CitationValue → CitationPart → List ℕ
part_pair citation part = pair_text (key_of part) (part_value citation part)

-- the whole citation as the query of an OpenURL 1.0, which names no format
unfoldable pub citation_query : CitedTitleValue → List ℕ
citation_query cited =
    codes "url_ver=Z39.88-2004" ++ (pair_text (codes "&rft.issn=") cited.issn
    ++ (pair_text (codes "&rft.isbn=") cited.isbn ++ flat_map (part_pair cited.citation) PARTS))

abbrev pub without_hyphens : List ℕ → List ℕ
without_hyphens text = filter (λ b. not (b == 45)) text

-- what is known for a field
abbrev pub field_text : CitedTitleValue → Option Field → List ℕ
field_text cited None = []
field_text cited (Some Issn) = cited.issn
field_text cited (Some IssnPlain) = without_hyphens cited.issn
field_text cited (Some Isbn) = cited.isbn
field_text cited (Some TitleId) = if_short cited.title_id
field_text cited (Some Year) = take 4 cited.date
field_text cited (Some Month) = take 2 (drop 5 cited.date)
field_text cited (Some Query) = citation_query cited
field_text cited (Some (Cited part)) = part_value cited.citation part

-- a step of a path (RFC 3986, section 3.3). Browsers take `%2E` for a dot, so escaping does not change what it is
abbrev pub is_step : List ℕ → Bool
is_step text = bytes_eq text (codes ".") || bytes_eq text (codes "..")

abbrev pub without_step : List ℕ → List ℕ
without_step text = if is_step text then [] else text

-- the part of this name; a step counts as absent
abbrev pub part_of : CitedTitleValue → List ℕ → List ℕ
part_of cited name = without_step (field_text cited (field_named name))

-- the same as it is in an address
unfoldable pub part_text : CitedTitleValue → List ℕ → List ℕ
part_text cited name = escaped (part_of cited name)

-- the rest of a template, in which each name in braces is replaced by its part; if a brace is open, `name` was read in it
abbrev pub filled_from : CitedTitleValue → Bool → List ℕ → List ℕ → List ℕ
filled_from cited is_open name [] = []
filled_from cited true name (b ∷ rest) =
    if b == 125 then part_text cited name ++ filled_from cited false [] rest else filled_from cited true (name ++ b ∷ []) rest
filled_from cited false name (b ∷ rest) =
    if b == 123 then filled_from cited true [] rest else b ∷ filled_from cited false name rest

abbrev pub filled : CitedTitleValue → List ℕ → List ℕ
filled cited template = filled_from cited false [] template

-- the names in braces in the rest of a template, read the same way
abbrev pub names_from : Bool → List ℕ → List ℕ → List (List ℕ)
names_from is_open name [] = []
names_from true name (b ∷ rest) = if b == 125 then name ∷ names_from false [] rest else names_from true (name ++ b ∷ []) rest
names_from false name (b ∷ rest) = if b == 123 then names_from true [] rest else names_from false name rest

abbrev pub names_in : List ℕ → List (List ℕ)
names_in template = names_from false [] template

abbrev pub is_given : List ℕ → Bool
is_given [] = false
is_given (b ∷ text) = true

-- the part of this name is there, and those of all names of a template are
abbrev pub gives : CitedTitleValue → List ℕ → Bool
gives cited name = is_given (part_of cited name)

abbrev pub gives_all : CitedTitleValue → List ℕ → Bool
gives_all cited template = list_all (gives cited) (names_in template)

-- a text, if it is safe to link to
abbrev pub if_link : List ℕ → Option (List ℕ)
if_link text = if is_link text then Some text else None
