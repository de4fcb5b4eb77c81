-- The hits of a query as an HTML page.
use Rattle.std.specs.Prelude.{ℕ, ◌==◌, ◌&&◌, Bool, true, false, not, if◌then◌else◌, List, [], ◌∷◌, ◌++◌, Option, Some, None}
use Rattle.std.specs.Fmt.{decimal}
use Rattle.form_urlencoded.specs.Form as form
use Rattle.feed_openurl.specs.Citations.{text_at}
use Rattle.feed_citation.specs.declared.citation_part.CitationPart.TheVariants as part
use Rattle.node_site.specs.Site as site_file
use Rattle.node_site.specs.Texts.{text_of}
use Rattle.node_hits.specs.QueryFacts.{QueryFactsValue}
use Rattle.node_hits.specs.Tallies.{TallyValue, left_out, outcome_of, shows_all}
use Rattle.node_templates.specs.Values.{text_or_nothing}
use Rattle.node_templates.specs.Pages.{Part, page_text, with_values}
use Rattle.node_templates.specs.declared.slot.Slot.TheVariants as slot
use Rattle.node_templates.specs.declared.template.Template.TheVariants as template
use Rattle.node_site.specs.declared.text_table.Text.{Text}
use Rattle.node_site.specs.declared.text_table.Text.TheVariants as text
use Rattle.node_pages.specs.Cards.{cards}
use Rattle.node_pages.specs.Citations.{cited_top}
use Rattle.node_pages.specs.Headings.{heading}
use Rattle.node_pages.specs.Lists.{list_mark}
use Rattle.node_pages.specs.Partial.{partial_names}
use Rattle.node_pages.specs.SearchForms.{form_end}
use Rattle.node_pages.specs.Ways.{cited_of, ways_to}
use Rattle.node_pages.specs.declared.card.Fit.TheVariants.{Hit, Dated, Outside}
use Rattle.node_pages.specs.declared.hits_page.TheConstants.{LIST_START}

-- no card is shown
abbrev pub is_none : TallyValue → TallyValue → TallyValue → Bool
is_none tally also others = (tally.count == 0) && ((also.count == 0) && (others.count == 0))

-- what is said if no release may have more, and none is a hit: that no holdings match, or that the library has the titles
-- only for another date or volume
abbrev pub note_of : TallyValue → Bool → Option Text
note_of tally is_none =
    if tally.is_whole && (tally.count == 0) then Some (if is_none then text.NoHoldings else text.HeldOther) else None

-- what is said of the hits, and the beginning of the list
abbrev pub hits_start : site_file.SiteValue → TallyValue → Bool → List Part
hits_start site tally is_none =
    with_values ((slot.Note, text_or_nothing site (note_of tally is_none)) ∷ (slot.Listed, list_mark is_none) ∷ []) LIST_START

-- the words before a number of hits, which may be too small
abbrev pub least : Bool → Text
least true = text.NotShown
least false = text.NotShownAtLeast

-- how many hits are left out, if any are
abbrev pub number_left_out : TallyValue → Option ℕ
number_left_out tally = if shows_all tally then None else Some (left_out tally)

-- the digits of a number, if there is one
abbrev pub digits_of : Option ℕ → List ℕ
digits_of None = []
digits_of (Some number) = decimal number

-- how to ask for fewer hits; a search that stops looks at the same rows, whatever the date and the volume are
abbrev pub hint : site_file.SiteValue → TallyValue → List ℕ
hint site tally = if tally.is_whole && not (shows_all tally) then text_of site text.NotShownHint else []

-- the end of the list, how many hits are left out, and which packages may have more
unfoldable pub list_end : site_file.SiteValue → TallyValue → Bool → List Part
list_end site tally is_none = with_values (
    (slot.Listed, list_mark is_none)
    ∷ (slot.LeastText, text_of site (least tally.is_whole))
    ∷ (slot.LeftOut, digits_of (number_left_out tally))
    ∷ (slot.Hint, hint site tally)
    ∷ (slot.MayHaveMore, partial_names site tally.partial)
    ∷ []) (template.LeftOut ∷ [])

-- what is behind the cards: the end of their list, the links of the library, and the form for a new search
unfoldable pub hits_end : site_file.SiteValue → List (List ℕ × List ℕ) → QueryFactsValue → TallyValue → Bool → List Part
hits_end site pairs ask tally is_none =
    list_end site tally is_none ++ (ways_to site (outcome_of tally) (cited_of ask pairs) ++ form_end pairs)

-- the page of the hits of a query with these pairs, and of two other tallies: the cards of hits, then those whose date is
-- covered, then all others
abbrev pub hits_parts : site_file.SiteValue → List (List ℕ × List ℕ) → QueryFactsValue → TallyValue → TallyValue → TallyValue
    → List Part
hits_parts site pairs ask tally also others =
    let none = is_none tally also others in
    cited_top site (heading site tally) pairs ask
    ++ (hits_start site tally none
    ++ (cards site (text_at ask.citation part.Title) Hit tally.top
    ++ (cards site (text_at ask.citation part.Title) Dated also.top
    ++ (cards site (text_at ask.citation part.Title) Outside others.top ++ hits_end site pairs ask tally none))))

unfoldable pub page_of_hits : site_file.SiteValue → List (List ℕ × List ℕ) → QueryFactsValue → TallyValue → TallyValue → TallyValue → List ℕ
page_of_hits site pairs ask tally also others = page_text site (hits_parts site pairs ask tally also others)

-- the same of a query as it is sent
abbrev pub hits_page : site_file.SiteValue → List ℕ → QueryFactsValue → TallyValue → TallyValue → TallyValue → List ℕ
hits_page site query ask tally also others = page_of_hits site (form.parse query) ask tally also others
