use Rattle.std.proofs.Common.{◌≡◌, ℕ, Bool, true, List, [], ◌∷◌, ◌++◌, refl}
use Rattle.std.specs.List.{flat_map}
use Rattle.std.proofs.lemmas.Bool.{and_from, and_parts}
use Rattle.feed_answer.specs.Pairs.{is_empty}
use Rattle.node_links.specs.LibraryLinks.{LibraryLinkValue, library_links}
use Rattle.node_links.specs.Requests.{CitedTitleValue}
use Rattle.node_site.specs.Site as site_file
use Rattle.node_site.specs.declared.occasion.LinkUse.TheVariants.{Shown}
use Rattle.node_site.specs.declared.occasion.SearchOutcome.{SearchOutcome}
use Rattle.node_site.specs.declared.occasion.SearchOutcome.TheVariants.{Unknown}
use Rattle.node_site.specs.Texts.{text_of}
use Rattle.node_site.specs.declared.text_table.Text.TheVariants as page
use Rattle.node_hits.specs.QueryFacts.{QueryFactsValue}
use Rattle.node_hits.specs.Tallies.{TallyValue, outcome_of}
use Rattle.node_templates.specs.Filled.{is_filled}
use Rattle.node_templates.specs.Pages.{Part, with_values}
use Rattle.node_templates.specs.declared.slot.Slot.TheVariants as slot
use Rattle.node_templates.specs.declared.template.Template.{Template}
use Rattle.node_templates.specs.declared.template.Template.TheVariants as template
use Rattle.node_templates.specs.Templates.{lines_of}
use Rattle.node_pages.specs.Cards.{card_with}
use Rattle.node_pages.specs.Coins.{coins_with}
use Rattle.node_pages.specs.Citations.{cited_top, names_with, place_parts, work_parts}
use Rattle.node_pages.specs.Fragments.{error_fragment_parts, fragment_end, fragment_reasons, fragment_reasons_with, fragment_start, fragment_ways}
use Rattle.node_pages.specs.Fragments.{fragment_ways_to, nothing_fragment_parts}
use Rattle.node_pages.specs.HitsPage.{hits_end, list_end}
use Rattle.node_pages.specs.HomePage.{package_parts, packages_end}
use Rattle.node_pages.specs.Laws.{are_filled}
use Rattle.node_pages.specs.Lists.{list_mark}
use Rattle.node_pages.specs.QueryRefusals.{reasons, reasons_with}
use Rattle.node_pages.specs.SearchForms.{form_end}
use Rattle.node_pages.specs.TitlesPage.{title_card, titles_end}
use Rattle.node_pages.specs.Ways.{cited_of, way_parts, ways, ways_to}
use Rattle.node_pages.proofs.laws.slots_are_given.Goals as goal

-- parts one after another
both : (xs ys : List Part) → are_filled xs ≡ true → are_filled ys ≡ true → are_filled (xs ++ ys) ≡ true
both [] ys one other = other
both (x ∷ xs) ys one other =
    let parts = and_parts (is_filled x.1 x.0) (are_filled xs) one in
    and_from (is_filled x.1 x.0) (are_filled (xs ++ ys)) parts.0 (both xs ys parts.1 other)

way_filled : (link : LibraryLinkValue) → are_filled (way_parts link) ≡ true
unfolding is_filled lines_of way_parts
way_filled link = refl

items_filled : (links : List LibraryLinkValue) → are_filled (flat_map way_parts links) ≡ true
items_filled [] = refl
items_filled (link ∷ links) = both (way_parts link) (flat_map way_parts links) (way_filled link) (items_filled links)

-- the beginning and the end of the list of links
abbrev mark : Template → List LibraryLinkValue → List Part
mark which links = with_values ((slot.Listed, list_mark (is_empty links)) ∷ []) (which ∷ [])

ways_filled : (links : List LibraryLinkValue) → are_filled (ways links) ≡ true
unfolding is_filled lines_of ways
ways_filled links =
    both (mark template.Ways links) (flat_map way_parts links ++ mark template.WaysEnd links) refl
    (both (flat_map way_parts links) (mark template.WaysEnd links) (items_filled links) refl)

ways_to_filled : (site : site_file.SiteValue) (outcome : SearchOutcome) (cited : CitedTitleValue) → are_filled (ways_to site outcome cited) ≡ true
unfolding ways_to
ways_to_filled site outcome cited = ways_filled (library_links site Shown outcome cited)

fragment_ways_filled : (links : List LibraryLinkValue) → are_filled (fragment_ways links) ≡ true
unfolding is_filled lines_of fragment_ways
fragment_ways_filled links =
    both (mark template.FragmentWays links) (flat_map way_parts links ++ mark template.FragmentEnd links) refl
    (both (flat_map way_parts links) (mark template.FragmentEnd links) (items_filled links) refl)

fragment_ways_to_filled : (site : site_file.SiteValue) (outcome : SearchOutcome) (cited : CitedTitleValue)
    → are_filled (fragment_ways_to site outcome cited) ≡ true
unfolding fragment_ways_to
fragment_ways_to_filled site outcome cited = fragment_ways_filled (library_links site Shown outcome cited)

fragment_start_filled : (site : site_file.SiteValue) (tally : TallyValue) (is_none : Bool) → are_filled (fragment_start site tally is_none) ≡ true
unfolding is_filled lines_of fragment_start
fragment_start_filled site tally is_none = refl

fragment_end_filled : (site : site_file.SiteValue) (pairs : List (List ℕ × List ℕ)) (ask : QueryFactsValue) (tally : TallyValue) (is_none : Bool)
    → are_filled (fragment_end site pairs ask tally is_none) ≡ true
unfolding is_filled lines_of list_end fragment_end
fragment_end_filled site pairs ask tally is_none =
    both (list_end site tally is_none) (fragment_ways_to site (outcome_of tally) (cited_of ask pairs)) refl
    (fragment_ways_to_filled site (outcome_of tally) (cited_of ask pairs))

nothing_fragment_filled : (site : site_file.SiteValue) (pairs : List (List ℕ × List ℕ)) (ask : QueryFactsValue)
    → are_filled (nothing_fragment_parts site pairs ask) ≡ true
unfolding is_filled lines_of fragment_reasons fragment_reasons_with
nothing_fragment_filled site pairs ask =
    both (fragment_reasons site pairs) (fragment_ways_to site Unknown (cited_of ask pairs)) refl
    (fragment_ways_to_filled site Unknown (cited_of ask pairs))

error_fragment_filled : (site : site_file.SiteValue) (name : List ℕ) → are_filled (error_fragment_parts site name) ≡ true
unfolding is_filled lines_of error_fragment_parts
error_fragment_filled site name = refl

form_filled : (pairs : List (List ℕ × List ℕ)) → are_filled (form_end pairs) ≡ true
unfolding is_filled lines_of form_end
form_filled pairs = refl

pub returns : goal.returns
unfolding is_filled lines_of cited_top work_parts place_parts names_with coins_with reasons reasons_with card_with hits_end list_end package_parts packages_end title_card titles_end form_end
returns c = record {
  citation = λ site heading pairs ask. refl;
  hits_start = λ site tally is_none. refl;
  card = λ site cited fit found. refl;
  hits_end = λ site pairs ask tally is_none.
      both (list_end site tally is_none) (ways_to site (outcome_of tally) (cited_of ask pairs) ++ form_end pairs) refl
      (both (ways_to site (outcome_of tally) (cited_of ask pairs)) (form_end pairs) (ways_to_filled site (outcome_of tally) (cited_of ask pairs)) refl);
  nothing = λ site pairs ask.
      both (cited_top site (text_of site page.NothingToLookUp) pairs ask) (reasons site pairs ask ++ (ways_to site Unknown (cited_of ask pairs) ++ form_end pairs)) refl
      (both (reasons site pairs ask) (ways_to site Unknown (cited_of ask pairs) ++ form_end pairs) refl
      (both (ways_to site Unknown (cited_of ask pairs)) (form_end pairs) (ways_to_filled site Unknown (cited_of ask pairs)) refl));
  error = λ site pairs advice name. refl;
  titles_start = λ site asked is_empty. refl;
  title = λ site entry. refl;
  titles_end = λ asked walk. refl;
  item = λ site active. refl;
  packages_end = λ mark left. refl;
  fragment_start = fragment_start_filled;
  fragment_end = fragment_end_filled;
  nothing_fragment = nothing_fragment_filled;
  error_fragment = error_fragment_filled;
}
