-- The beginning of a page with the citation of a query.
use Rattle.std.specs.Prelude.{ℕ, ◌||◌, ◌==◌, Bool, not, if◌then◌else◌, List, [], ◌∷◌, ◌++◌, codes, unwrap_or}
use Rattle.std.specs.List.{list_all}
use Rattle.std.specs.Char.{is_ascii_alphanumeric}
use Rattle.feed_answer.specs.Pairs.{is_empty}
use Rattle.feed_openurl.specs.Citations.{text_at}
use Rattle.feed_citation.specs.declared.citation_part.CitationPart.TheVariants as part
use Rattle.node_links.specs.Articles.{doi_link}
use Rattle.node_site.specs.Site as site_file
use Rattle.node_hits.specs.QueryFacts.{QueryFactsValue}
use Rattle.node_templates.specs.Values.{text_if}
use Rattle.node_templates.specs.Pages.{Part, with_values}
use Rattle.node_templates.specs.declared.slot.Slot.TheVariants as slot
use Rattle.node_templates.specs.declared.template.Template.TheVariants as template
use Rattle.node_pages.specs.Coins.{coins_parts, is_cited}
use Rattle.node_pages.specs.SearchForms.{isbn_in, issn_in}
use Rattle.node_pages.specs.declared.citation.TheConstants.{CITED_TOP}

-- a byte that needs no encoding in a path of an address
abbrev pub is_mark : ℕ → Bool
is_mark b = (b == 45) || (b == 46) || (b == 95) || (b == 59) || (b == 40) || (b == 41) || (b == 47) || (b == 58)

abbrev pub is_plain : ℕ → Bool
is_plain b = is_ascii_alphanumeric b || is_mark b

-- the value of the slot of a citation that has any part
abbrev pub cited_mark : List (List ℕ × List ℕ) → QueryFactsValue → List ℕ
cited_mark pairs ask = text_if (is_cited pairs ask) (codes "cited")

-- the heading of the page, and what is cited, with its numbers
unfoldable pub work_parts : List ℕ → List (List ℕ × List ℕ) → QueryFactsValue → List Part
work_parts heading pairs ask = with_values (
    (slot.Heading, heading)
    ∷ (slot.Cited, cited_mark pairs ask)
    ∷ (slot.Article, text_at ask.citation part.Article)
    ∷ (slot.Work, text_at ask.citation part.Title)
    ∷ (slot.Author, text_at ask.citation part.Author)
    ∷ (slot.Issn, issn_in pairs)
    ∷ (slot.Isbn, isbn_in pairs)
    ∷ []) CITED_TOP

-- where it is: a date and a volume that are not understood have a note
unfoldable pub place_parts : QueryFactsValue → List Part
place_parts ask = with_values (
    (slot.DateRead, text_if ask.has_date (text_at ask.citation part.Date))
    ∷ (slot.DateNoted, text_if (not ask.has_date) (text_at ask.citation part.Date))
    ∷ (slot.VolumeRead, text_if ask.has_volume (text_at ask.citation part.Volume))
    ∷ (slot.VolumeNoted, text_if (not ask.has_volume) (text_at ask.citation part.Volume))
    ∷ (slot.Issue, text_at ask.citation part.Issue)
    ∷ (slot.FirstPage, text_at ask.citation part.Pages)
    ∷ []) (template.CitedPlace ∷ [])

-- the link to what a DOI names, if the DOI needs no encoding in an address
abbrev pub doi_address : site_file.SiteValue → List ℕ → List ℕ
doi_address site doi = if is_empty doi || not (list_all is_plain doi) then [] else unwrap_or (doi_link site doi) []

-- its names: one that needs no encoding in an address is a link; that of a DOI goes through a proxy as others do
unfoldable pub names_with : List (List ℕ × List ℕ) → QueryFactsValue → List ℕ → List Part
names_with pairs ask address =
    let doi = text_at ask.citation part.Doi in
    let pmid = text_at ask.citation part.Pmid in
    with_values (
    (slot.DoiAddress, address)
    ∷ (slot.DoiLink, doi)
    ∷ (slot.Doi, text_if (is_empty address) doi)
    ∷ (slot.PmidLink, text_if (list_all is_plain pmid) pmid)
    ∷ (slot.Pmid, text_if (not (list_all is_plain pmid)) pmid)
    ∷ (slot.Cited, cited_mark pairs ask)
    ∷ []) (template.CitedNames ∷ [])

abbrev pub names_parts : site_file.SiteValue → List (List ℕ × List ℕ) → QueryFactsValue → List Part
names_parts site pairs ask = names_with pairs ask (doi_address site (text_at ask.citation part.Doi))

-- a page with this heading, up to and including the citation for readers and for programs
unfoldable pub cited_top : site_file.SiteValue → List ℕ → List (List ℕ × List ℕ) → QueryFactsValue → List Part
cited_top site heading pairs ask =
    work_parts heading pairs ask ++ (place_parts ask ++ (names_parts site pairs ask ++ coins_parts pairs ask))
