-- The fields of the templates of addresses: the parts of a citation, and what is made of them.
use Rattle.std.specs.Prelude.{ℕ, Bool, true, false, List, Option, Some, None, option_map, if◌then◌else◌, codes}
use Rattle.std.specs.Str.{bytes_eq}
use Rattle.feed_citation.specs.CitationParts.{part_named}
use Rattle.feed_citation.specs.declared.citation_part.CitationPart.TheVariants.{Page}
use Rattle.node_site.specs.declared.field.Field.{Field}
use Rattle.node_site.specs.declared.field.Field.TheVariants.{Issn, IssnPlain, Isbn, TitleId, Year, Month, Query, Cited}
use Rattle.node_site.specs.declared.field.Names.{Names}
use Rattle.node_site.specs.declared.field.Names.TheVariants.{OfLink, OfArticle, OfPrefix}

-- a part of a citation has its name, and the first page also the one of OpenURL
abbrev pub part_field : List ℕ → Option Field
part_field name = if bytes_eq name (codes "spage") then Some (Cited Page) else option_map Cited (part_named name)

-- the field of this name
abbrev pub field_named : List ℕ → Option Field
field_named name =
    if bytes_eq name (codes "issn") then Some Issn
    else if bytes_eq name (codes "issn_plain") then Some IssnPlain
    else if bytes_eq name (codes "isbn") then Some Isbn
    else if bytes_eq name (codes "title_id") then Some TitleId
    else if bytes_eq name (codes "year") then Some Year
    else if bytes_eq name (codes "month") then Some Month
    else if bytes_eq name (codes "query") then Some Query
    else part_field name

-- a link of the library is not about a row of a list
abbrev pub is_for_link : Option Field → Bool
is_for_link None = false
is_for_link (Some TitleId) = false
is_for_link (Some field) = true

-- the address of an article has no use for the whole citation
abbrev pub is_for_article : Option Field → Bool
is_for_article None = false
is_for_article (Some Query) = false
is_for_article (Some field) = true

-- a template may have this name in braces: one of a field, or in the prefix of a proxy `url`
unfoldable pub is_allowed : Names → List ℕ → Bool
is_allowed OfLink name = is_for_link (field_named name)
is_allowed OfArticle name = is_for_article (field_named name)
is_allowed OfPrefix name = bytes_eq name (codes "url")
