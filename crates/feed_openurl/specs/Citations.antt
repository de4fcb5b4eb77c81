-- The citation of an OpenURL: of each part, the first value of the best key, and all authors (Z39.88-2004, the matrices
-- of journals, books and dissertations; OpenURL 0.1; Dublin Core).
use Rattle.std.specs.Prelude.{ℕ, Bool, ◌||◌, ◌&&◌, not, ◌==◌, ◌+◌, ◌++◌, ◌∷◌, nat_lt, List, [], Option, Some, None, if◌then◌else◌, option_map, fold, map, take, drop, codes, slice_get}
use Rattle.std.specs.List.{flat_map}
use Rattle.form_urlencoded.specs.Form as form
use Rattle.feed_bytes.specs.Trim.{trimmed}
use Rattle.feed_answer.specs.Pairs.{is_empty}
use Rattle.feed_citation.specs.CitationParts.{place_of, same_part}
use Rattle.feed_openurl.specs.Fronts.{front_len}
use Rattle.feed_openurl.specs.Keys.{after_prefix, is_name, key_of, mended, or_else}
use Rattle.feed_openurl.specs.Links.{bare_pmid_of, doi_of, pmid_of}
use Rattle.feed_openurl.specs.Shown.{shown}
use Rattle.feed_citation.specs.declared.citation_part.CitationPart.{CitationPart}
use Rattle.feed_citation.specs.declared.citation_part.CitationPart.TheVariants.{Article, Title, Author, Date, Volume, Issue, Page, Doi, Pmid, Genre}
use Rattle.feed_citation.specs.declared.citation_part.CitationPart.TheVariants.{LastName, FirstName, LastPage, Pages, Series, Edition, Publisher, Place, Institution}
use Rattle.feed_citation.specs.declared.citation_part.TheConstants.{PARTS}
use Rattle.feed_openurl.specs.declared.key.Key.{Key}
use Rattle.feed_openurl.specs.declared.key.Key.TheVariants as key
use Rattle.feed_openurl.specs.declared.key.Tier.{Tier}
use Rattle.feed_openurl.specs.declared.key.Tier.TheVariants.{Old, Rft}

-- the texts of a citation, in the order of its parts; one that is absent is empty
abbrev pub CitationValue : Type 0
CitationValue = List (List ℕ)

-- the text of a part
abbrev pub text_at : CitationValue → CitationPart → List ℕ
text_at citation part = or_else (slice_get citation (place_of part)) []

-- the rank of a key: those of OpenURL 1.0 before those of 0.1, and then by how closely the key names the part; the least is
-- the best
abbrev pub rank : Tier → ℕ → ℕ
rank Rft order = order
rank Old order = 30 + order

-- a title
abbrev pub title_part : List ℕ → Option (CitationPart × ℕ)
title_part name =
    if is_name name (codes "atitle") then Some (Article, 0)
    else if is_name name (codes "jtitle") || is_name name (codes "btitle") then Some (Title, 0)
    else if is_name name (codes "title") then Some (Title, 1)
    else if is_name name (codes "stitle") then Some (Title, 2)
    else if is_name name (codes "source") then Some (Title, 3)
    else None

-- an author: one whole name a value, or the parts of the name of the first author
abbrev pub author_part : List ℕ → Option (CitationPart × ℕ)
author_part name =
    if is_name name (codes "au") then Some (Author, 0)
    else if is_name name (codes "aulast") then Some (LastName, 1)
    else if is_name name (codes "creator") then Some (Author, 2)
    else if is_name name (codes "aufirst") then Some (FirstName, 0)
    else if is_name name (codes "auinit") then Some (FirstName, 1)
    else if is_name name (codes "auinit1") then Some (FirstName, 2)
    else None

-- a place in a journal or a book; a DOI or a PMID that has a key of its own comes after one that is a name
abbrev pub number_part : List ℕ → Option (CitationPart × ℕ)
number_part name =
    if is_name name (codes "issue") then Some (Issue, 0)
    else if is_name name (codes "spage") then Some (Page, 0)
    else if is_name name (codes "epage") then Some (LastPage, 0)
    else if is_name name (codes "pages") then Some (Pages, 1)
    else if is_name name (codes "doi") then Some (Doi, 20)
    else if is_name name (codes "pmid") then Some (Pmid, 20)
    else None

-- what a work is, and where it was published
abbrev pub work_part : List ℕ → Option (CitationPart × ℕ)
work_part name =
    if is_name name (codes "genre") then Some (Genre, 0)
    else if is_name name (codes "series") then Some (Series, 0)
    else if is_name name (codes "edition") then Some (Edition, 0)
    else if is_name name (codes "pub") then Some (Publisher, 0)
    else if is_name name (codes "publisher") then Some (Publisher, 1)
    else if is_name name (codes "place") then Some (Place, 0)
    else if is_name name (codes "inst") then Some (Institution, 0)
    else None

abbrev pub or_part : Option (CitationPart × ℕ) → Option (CitationPart × ℕ) → Option (CitationPart × ℕ)
or_part (Some found) other = Some found
or_part None other = other

-- the part that a name has, and the order of its key
abbrev pub ordered : List ℕ → Option (CitationPart × ℕ)
ordered name = or_part (title_part name) (or_part (author_part name) (or_part (number_part name) (work_part name)))

-- the same with the rank of the key
abbrev pub named : Tier → List ℕ → Option (CitationPart × ℕ)
named tier name = option_map (λ found. (found.0, rank tier found.1)) (ordered name)

abbrev pub named_after : Option (List ℕ) → List ℕ → Option (CitationPart × ℕ)
named_after (Some rest) name = named Rft rest
named_after None name = named Old name

abbrev pub part_of : List ℕ → Option (CitationPart × ℕ)
part_of key = named_after (after_prefix (codes "rft.") (mended key)) (mended key)

-- a byte of a page: not a hyphen, a comma or a space, which are between two pages, as in `10-15`
abbrev pub is_in_page : ℕ → Bool
is_in_page b = not (b == 45) && not (b == 44) && not (b == 32)

abbrev pub is_between_pages : ℕ → Bool
is_between_pages b = not (is_in_page b)

-- the first of some pages, and the one that follows it
abbrev pub first_page : List ℕ → List ℕ
first_page pages = take (front_len is_in_page pages) pages

abbrev pub behind_page : List ℕ → List ℕ
behind_page pages = drop (front_len is_in_page pages) pages

abbrev pub next_page : List ℕ → List ℕ
next_page pages = first_page (drop (front_len is_between_pages (behind_page pages)) (behind_page pages))

-- a text that is offered for a part
pub record OfferValue : Type 0 where
  pub part : CitationPart
  pub rank : ℕ
  pub text : List ℕ

-- a text that shows nothing is not offered
abbrev pub offer_text : CitationPart → ℕ → List ℕ → List OfferValue
offer_text part rank text = if is_empty text then [] else record { part = part; rank = rank; text = text } ∷ []

abbrev pub offer : CitationPart → ℕ → List ℕ → List OfferValue
offer part rank value = offer_text part rank (shown value)

abbrev pub offer_some : CitationPart → ℕ → Option (List ℕ) → List OfferValue
offer_some part rank (Some value) = offer part rank value
offer_some part rank None = []

-- some pages, the first of them, and the one that follows it
abbrev pub pages_offers : ℕ → List ℕ → List OfferValue
pages_offers rank value = offer Pages rank value ++ (offer Page rank (first_page value) ++ offer LastPage rank (next_page value))

-- what a value of this part and this rank says of a citation
abbrev pub part_offers : CitationPart → ℕ → List ℕ → List OfferValue
part_offers Pages rank value = pages_offers rank value
part_offers Doi rank value = offer_some Doi rank (doi_of value)
part_offers Pmid rank value = offer_some Pmid rank (bare_pmid_of value)
part_offers part rank value = offer part rank value

abbrev pub offers_for : Option (CitationPart × ℕ) → List ℕ → List OfferValue
offers_for (Some found) value = part_offers found.0 found.1 value
offers_for None value = []

-- a name is a DOI or a PMID
abbrev pub name_offers_by : ℕ → Option (List ℕ) → List ℕ → List OfferValue
name_offers_by rank (Some doi) value = offer Doi rank doi
name_offers_by rank None value = offer_some Pmid rank (pmid_of value)

-- what a value says of a citation, by what its key asks for
abbrev pub offers_by : Key → List ℕ → List ℕ → List OfferValue
offers_by (key.Date tier) name value = offer Date (rank tier 0) value
offers_by (key.Volume tier) name value = offer Volume (rank tier 0) value
offers_by (key.Name tier) name value = name_offers_by (rank tier 0) (doi_of value) value
offers_by key.Other name value = offers_for (part_of name) value
offers_by _ name value = []

abbrev pub pair_offers : List ℕ × List ℕ → List OfferValue
pair_offers pair = offers_by (key_of pair.0) pair.0 (trimmed pair.1)

-- what the pairs of an OpenURL say of a citation
abbrev pub offers_of : List (List ℕ × List ℕ) → List OfferValue
offers_of pairs = flat_map pair_offers pairs

-- the text that is chosen for a part so far, and its rank; it is empty if there is none
pub record ChoiceValue : Type 0 where
  pub rank : ℕ
  pub text : List ℕ

abbrev pub no_choice : ChoiceValue
no_choice = record { rank = 0; text = [] }

-- an offer for the part replaces one of a later rank
abbrev pub taken : CitationPart → ChoiceValue → OfferValue → ChoiceValue
taken part choice offered =
    if same_part part offered.part && (is_empty choice.text || nat_lt offered.rank choice.rank)
    then record { rank = offered.rank; text = offered.text } else choice

-- the first offer of the best rank
abbrev pub best : CitationPart → List OfferValue → ChoiceValue
best part offers = fold (taken part) no_choice offers

-- two texts with a mark between them, or the one that there is
abbrev pub beside : List ℕ → List ℕ → List ℕ → List ℕ
beside mark one other = if is_empty other then one else if is_empty one then other else one ++ (mark ++ other)

-- all authors of a rank
abbrev pub with_author : ℕ → List ℕ → OfferValue → List ℕ
with_author rank text offered =
    if same_part Author offered.part && (rank == offered.rank) then beside (codes "; ") text offered.text else text

abbrev pub authors : ℕ → List OfferValue → List ℕ
authors rank offers = fold (with_author rank) [] offers

-- there is a choice, and it is of a better rank than another one
abbrev pub is_before : ChoiceValue → ChoiceValue → Bool
is_before one other = not (is_empty one.text) && (is_empty other.text || nat_lt one.rank other.rank)

-- all authors, or the first one, as `Doe, Jane`
abbrev pub author_text : List OfferValue → List ℕ
author_text offers =
    if is_before (best Author offers) (best LastName offers) then authors (best Author offers).rank offers
    else beside (codes ", ") (best LastName offers).text (best FirstName offers).text

-- the pages as they came, or else the first one and the last
abbrev pub pages_text : List OfferValue → List ℕ
pages_text offers =
    if is_empty (best Pages offers).text then beside (codes "-") (best Page offers).text (best LastPage offers).text
    else (best Pages offers).text

-- the text of a part, by all offers
abbrev pub part_text : List OfferValue → CitationPart → List ℕ
part_text offers Author = author_text offers
part_text offers Pages = pages_text offers
part_text offers part = (best part offers).text

abbrev pub cited : List OfferValue → CitationValue
cited offers = map (part_text offers) PARTS

-- the citation of the pairs of an OpenURL
abbrev pub citation_of_pairs : List (List ℕ × List ℕ) → CitationValue
citation_of_pairs pairs = cited (offers_of pairs)

-- the citation of an OpenURL
unfoldable pub citation_of : List ℕ → CitationValue
citation_of text = citation_of_pairs (form.parse text)
