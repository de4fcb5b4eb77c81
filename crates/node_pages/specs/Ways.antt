-- The links of a library in a page.
use Rattle.std.specs.Prelude.{ℕ, List, [], ◌∷◌, ◌++◌}
use Rattle.std.specs.List.{flat_map}
use Rattle.feed_answer.specs.Pairs.{is_empty}
use Rattle.node_links.specs.LibraryLinks.{LibraryLinkValue, library_links}
use Rattle.node_links.specs.Requests.{CitedTitleValue}
use Rattle.node_site.specs.Site as site_file
use Rattle.node_site.specs.declared.occasion.LinkUse.TheVariants.{Shown}
use Rattle.node_site.specs.declared.occasion.SearchOutcome.{SearchOutcome}
use Rattle.node_hits.specs.QueryFacts.{QueryFactsValue}
use Rattle.node_templates.specs.Pages.{Part, with_values}
use Rattle.node_templates.specs.declared.slot.Slot.TheVariants as slot
use Rattle.node_templates.specs.declared.template.Template.TheVariants as template
use Rattle.node_pages.specs.Lists.{list_mark}
use Rattle.node_pages.specs.SearchForms.{isbn_in, issn_in}

-- what a query with these pairs cites, with its date as it is understood
abbrev pub cited_of : QueryFactsValue → List (List ℕ × List ℕ) → CitedTitleValue
cited_of ask pairs = record { citation = ask.citation; issn = issn_in pairs; isbn = isbn_in pairs; date = ask.date; title_id = [] }

-- a link by its label
unfoldable pub way_parts : LibraryLinkValue → List Part
way_parts link = with_values ((slot.Label, link.label) ∷ (slot.Way, link.address) ∷ []) (template.Way ∷ [])

abbrev pub way_items : List LibraryLinkValue → List Part
way_items links = flat_map way_parts links

-- the links as a list, and the heading of the form behind it
unfoldable pub ways : List LibraryLinkValue → List Part
ways links =
    with_values ((slot.Listed, list_mark (is_empty links)) ∷ []) (template.Ways ∷ [])
    ++ (way_items links ++ with_values ((slot.Listed, list_mark (is_empty links)) ∷ []) (template.WaysEnd ∷ []))

-- the links of a library to what is cited, by the outcome of its search
unfoldable pub ways_to : site_file.SiteValue → SearchOutcome → CitedTitleValue → List Part
ways_to site outcome cited = ways (library_links site Shown outcome cited)
