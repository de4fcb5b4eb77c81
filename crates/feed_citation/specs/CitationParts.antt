-- The parts of a citation, and the names that they have in JSON and in the template of a request form.
use Rattle.std.specs.Prelude.{◌≡◌, ◌==◌, ℕ, Bool, List, [], ◌∷◌, Option, Some, codes, map, slice_get, unwrap_or}
use Rattle.std.specs.List.{find, AllByRecursion}
use Rattle.std.specs.Str.{bytes_eq}
use Rattle.feed_citation.specs.contracts.citation_part.CitationPart.{the_type}
use Rattle.feed_citation.specs.declared.citation_part.CitationPart.{CitationPart}
use Rattle.feed_citation.specs.declared.citation_part.CitationPart.TheVariants.{Article, Title, Author, Date, Volume, Issue, Page, Doi, Pmid, Genre}
use Rattle.feed_citation.specs.declared.citation_part.CitationPart.TheVariants.{LastName, FirstName, LastPage, Pages, Series, Edition, Publisher, Place, Institution}
use Rattle.feed_citation.specs.declared.citation_part.TheConstants.{NAMES, PARTS}
use denote.Enum.Declared.{tag_of}

-- the place of a part among all parts
abbrev pub place_of : CitationPart → ℕ
place_of part = tag_of the_type part

-- the name of a part: that at its place
abbrev pub name_of : CitationPart → List ℕ
name_of part = unwrap_or (slice_get (map (λ name. name.now) NAMES) (place_of part)) []

-- two parts are the same
abbrev pub same_part : CitationPart → CitationPart → Bool
same_part one other = place_of one == place_of other

-- a part has this name
abbrev pub is_called : List ℕ → CitationPart → Bool
is_called name part = bytes_eq name (name_of part)

-- the part of this name
abbrev pub part_named : List ℕ → Option CitationPart
part_named name = find (is_called name) PARTS

-- the names by which sources and site files know the parts
abbrev pub known_names : List (CitationPart × List ℕ)
known_names =
    (Article, codes "article") ∷ (Title, codes "title") ∷ (Author, codes "author") ∷ (Date, codes "date") ∷ (Volume, codes "volume")
    ∷ (Issue, codes "issue") ∷ (Page, codes "page") ∷ (Doi, codes "doi") ∷ (Pmid, codes "pmid") ∷ (Genre, codes "genre")
    ∷ (LastName, codes "aulast") ∷ (FirstName, codes "aufirst") ∷ (LastPage, codes "epage") ∷ (Pages, codes "pages")
    ∷ (Series, codes "series") ∷ (Edition, codes "edition") ∷ (Publisher, codes "pub") ∷ (Place, codes "place")
    ∷ (Institution, codes "inst") ∷ []

-- each part has its name, and is the part of this name
abbrev pub PartsAreNamed : Type 0
PartsAreNamed = AllByRecursion (λ known. (name_of known.0 ≡ known.1) × (part_named known.1 ≡ Some known.0)) known_names

-- the parts are at their places
abbrev pub PartsAreInPlace : Type 0
PartsAreInPlace = map place_of PARTS ≡ 0 ∷ 1 ∷ 2 ∷ 3 ∷ 4 ∷ 5 ∷ 6 ∷ 7 ∷ 8 ∷ 9 ∷ 10 ∷ 11 ∷ 12 ∷ 13 ∷ 14 ∷ 15 ∷ 16 ∷ 17 ∷ 18 ∷ []
