-- The fragments that other sites have in pages of their own: the hits of a query, or why there are none.
use Rattle.std.specs.Prelude.{ℕ, Bool, List, [], ◌∷◌, ◌++◌}
use Rattle.form_urlencoded.specs.Form as form
use Rattle.feed_answer.specs.Pairs.{is_empty}
use Rattle.feed_openurl.specs.Citations.{text_at}
use Rattle.feed_citation.specs.declared.citation_part.CitationPart.TheVariants as part
use Rattle.node_links.specs.LibraryLinks.{LibraryLinkValue, library_links}
use Rattle.node_links.specs.Requests.{CitedTitleValue}
use Rattle.node_site.specs.Site as site_file
use Rattle.node_site.specs.Texts.{text_of}
use Rattle.node_site.specs.declared.occasion.LinkUse.TheVariants.{Shown}
use Rattle.node_site.specs.declared.occasion.SearchOutcome.{SearchOutcome}
use Rattle.node_site.specs.declared.occasion.SearchOutcome.TheVariants.{Unknown}
use Rattle.node_site.specs.declared.text_table.Text.TheVariants as text
use Rattle.node_hits.specs.QueryFacts.{QueryFactsValue}
use Rattle.node_hits.specs.Tallies.{TallyValue, outcome_of}
use Rattle.node_templates.specs.Values.{text_or_nothing}
use Rattle.node_templates.specs.Pages.{Part, page_text, with_values}
use Rattle.node_templates.specs.declared.slot.Slot.TheVariants as slot
use Rattle.node_templates.specs.declared.template.Template.TheVariants as template
use Rattle.node_pages.specs.Cards.{cards}
use Rattle.node_pages.specs.Headings.{heading}
use Rattle.node_pages.specs.HitsPage.{is_none, list_end, note_of}
use Rattle.node_pages.specs.Lists.{list_mark}
use Rattle.node_pages.specs.NumberFaults.{fault_words}
use Rattle.node_pages.specs.SearchForms.{isbn_in, issn_in}
use Rattle.node_pages.specs.Ways.{cited_of, way_items}
use Rattle.node_pages.specs.declared.card.Fit.TheVariants.{Hit, Dated, Outside}
use Rattle.node_pages.specs.declared.fragment.TheConstants.{FRAGMENT_ERROR, FRAGMENT_NOTHING, FRAGMENT_START}
use Rattle.node_pages.specs.declared.number_faults.NumberKind.TheVariants.{Issn, Isbn}

-- the heading, what is said of the hits, and the beginning of their list
unfoldable pub fragment_start : site_file.SiteValue → TallyValue → Bool → List Part
fragment_start site tally is_none = with_values (
    (slot.Heading, heading site tally)
    ∷ (slot.Note, text_or_nothing site (note_of tally is_none))
    ∷ (slot.Listed, list_mark is_none)
    ∷ []) FRAGMENT_START

-- links of a library as a list, and the end of the fragment
unfoldable pub fragment_ways : List LibraryLinkValue → List Part
fragment_ways links =
    with_values ((slot.Listed, list_mark (is_empty links)) ∷ []) (template.FragmentWays ∷ [])
    ++ (way_items links ++ with_values ((slot.Listed, list_mark (is_empty links)) ∷ []) (template.FragmentEnd ∷ []))

-- the links of a library to what is cited, by the outcome of its search
unfoldable pub fragment_ways_to : site_file.SiteValue → SearchOutcome → CitedTitleValue → List Part
fragment_ways_to site outcome cited = fragment_ways (library_links site Shown outcome cited)

-- what is behind the cards: the end of their list, and the links of the library
unfoldable pub fragment_end : site_file.SiteValue → List (List ℕ × List ℕ) → QueryFactsValue → TallyValue → Bool → List Part
fragment_end site pairs ask tally is_none =
    list_end site tally is_none ++ fragment_ways_to site (outcome_of tally) (cited_of ask pairs)

-- the fragment for a query with these pairs: what the page has between its citation and its form
abbrev pub fragment_parts : site_file.SiteValue → List (List ℕ × List ℕ) → QueryFactsValue → TallyValue → TallyValue → TallyValue
    → List Part
fragment_parts site pairs ask tally also others =
    let none = is_none tally also others in
    fragment_start site tally none
    ++ (cards site (text_at ask.citation part.Title) Hit tally.top
    ++ (cards site (text_at ask.citation part.Title) Dated also.top
    ++ (cards site (text_at ask.citation part.Title) Outside others.top ++ fragment_end site pairs ask tally none)))

unfoldable pub fragment_of_hits : site_file.SiteValue → List (List ℕ × List ℕ) → QueryFactsValue → TallyValue → TallyValue → TallyValue → List ℕ
fragment_of_hits site pairs ask tally also others = page_text site (fragment_parts site pairs ask tally also others)

-- the same of a query as it is sent
abbrev pub hits_fragment : site_file.SiteValue → List ℕ → QueryFactsValue → TallyValue → TallyValue → TallyValue → List ℕ
hits_fragment site query ask tally also others = fragment_of_hits site (form.parse query) ask tally also others

-- that nothing is looked up, and what is wrong with the ISSN and the ISBN
unfoldable pub fragment_reasons_with : site_file.SiteValue → List (List ℕ × List ℕ) → List ℕ → List ℕ → List Part
fragment_reasons_with site pairs issn_fault isbn_fault = with_values (
    (slot.Heading, text_of site text.NothingToLookUp)
    ∷ (slot.Note, text_of site text.NoNumber)
    ∷ (slot.Issn, issn_in pairs)
    ∷ (slot.IssnFault, issn_fault)
    ∷ (slot.Isbn, isbn_in pairs)
    ∷ (slot.IsbnFault, isbn_fault)
    ∷ []) FRAGMENT_NOTHING

unfoldable pub fragment_reasons : site_file.SiteValue → List (List ℕ × List ℕ) → List Part
fragment_reasons site pairs =
    fragment_reasons_with site pairs (fault_words site Issn (issn_in pairs)) (fault_words site Isbn (isbn_in pairs))

-- the fragment for an OpenURL with these pairs, which has no number that can be looked up
abbrev pub nothing_fragment_parts : site_file.SiteValue → List (List ℕ × List ℕ) → QueryFactsValue → List Part
nothing_fragment_parts site pairs ask = fragment_reasons site pairs ++ fragment_ways_to site Unknown (cited_of ask pairs)

unfoldable pub fragment_of_nothing : site_file.SiteValue → List (List ℕ × List ℕ) → QueryFactsValue → List ℕ
fragment_of_nothing site pairs ask = page_text site (nothing_fragment_parts site pairs ask)

-- the same for an OpenURL as it is sent
abbrev pub nothing_fragment : site_file.SiteValue → List ℕ → QueryFactsValue → List ℕ
nothing_fragment site query ask = fragment_of_nothing site (form.parse query) ask

-- the fragment of an error has its name; what a page says of it speaks of its form
unfoldable pub error_fragment_parts : site_file.SiteValue → List ℕ → List Part
error_fragment_parts site name = with_values (
    (slot.Heading, text_of site text.NotAnswered)
    ∷ (slot.Fault, name)
    ∷ (slot.Listed, [])
    ∷ []) FRAGMENT_ERROR

unfoldable pub error_fragment : site_file.SiteValue → List ℕ → List ℕ
error_fragment site name = page_text site (error_fragment_parts site name)
