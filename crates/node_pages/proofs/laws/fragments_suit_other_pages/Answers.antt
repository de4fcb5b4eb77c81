use Rattle.std.proofs.Common.{◌≡◌, ℕ, Bool, true, List, [], ◌∷◌, ◌++◌, refl, sym, subst}
use Rattle.std.specs.List.{flat_map}
use Rattle.std.proofs.lemmas.Bool.{and_from, and_parts}
use Rattle.feed_answer.specs.Pairs.{is_empty}
use Rattle.feed_openurl.specs.Citations.{text_at}
use Rattle.feed_citation.specs.declared.citation_part.CitationPart.TheVariants as part
use Rattle.node_links.specs.LibraryLinks.{LibraryLinkValue, library_links}
use Rattle.node_links.specs.Requests.{CitedTitleValue}
use Rattle.node_site.specs.Site as site_file
use Rattle.node_site.specs.declared.occasion.LinkUse.TheVariants.{Shown}
use Rattle.node_site.specs.declared.occasion.SearchOutcome.{SearchOutcome}
use Rattle.node_site.specs.declared.occasion.SearchOutcome.TheVariants.{Unknown}
use Rattle.node_hits.specs.Hits.{ReleaseHitValue}
use Rattle.node_hits.specs.QueryFacts.{QueryFactsValue}
use Rattle.node_hits.specs.Tallies.{TallyValue, outcome_of}
use Rattle.node_templates.proofs.Keeping.{parts_have_tags}
use Rattle.node_templates.specs.Laws.{page_html}
use Rattle.node_templates.specs.Pages.{Part, page_text, with_values}
use Rattle.node_templates.specs.Sound.{are_sound_parts, is_sound}
use Rattle.node_templates.specs.Tags.{HasTagsOf, OtherPage}
use Rattle.node_templates.specs.Templates.{lines_of}
use Rattle.node_templates.specs.declared.slot.Slot.TheVariants as slot
use Rattle.node_templates.specs.declared.template.Template.{Template}
use Rattle.node_templates.specs.declared.template.Template.TheVariants as template
use Rattle.node_pages.specs.Cards.{card_parts, card_with, cards}
use Rattle.node_pages.specs.Fragments.{error_fragment, error_fragment_parts, fragment_end, fragment_of_hits, fragment_of_nothing, fragment_parts}
use Rattle.node_pages.specs.Fragments.{fragment_reasons, fragment_reasons_with, fragment_start, fragment_ways, fragment_ways_to, nothing_fragment_parts}
use Rattle.node_pages.specs.HitsPage.{is_none, list_end}
use Rattle.node_pages.specs.Laws.{HasPlacedTags}
use Rattle.node_pages.specs.Lists.{list_mark}
use Rattle.node_pages.specs.Ways.{cited_of, way_parts}
use Rattle.node_pages.specs.declared.card.Fit.{Fit}
use Rattle.node_pages.specs.declared.card.Fit.TheVariants.{Hit, Dated, Outside}
use Rattle.node_pages.proofs.laws.fragments_suit_other_pages.Goals as goal

-- parts one after another
both : (xs ys : List Part) → are_sound_parts OtherPage xs ≡ true → are_sound_parts OtherPage ys ≡ true → are_sound_parts OtherPage (xs ++ ys) ≡ true
both [] ys one other = other
both (x ∷ xs) ys one other =
    let parts = and_parts (is_sound OtherPage (lines_of x.0)) (are_sound_parts OtherPage xs) one in
    and_from (is_sound OtherPage (lines_of x.0)) (are_sound_parts OtherPage (xs ++ ys)) parts.0 (both xs ys parts.1 other)

-- the parts of each item of a list
each : (X : Type 0) (f : X → List Part) → ((x : X) → are_sound_parts OtherPage (f x) ≡ true) → (xs : List X)
    → are_sound_parts OtherPage (flat_map f xs) ≡ true
each X f sound [] = refl
each X f sound (x ∷ xs) = both (f x) (flat_map f xs) (sound x) (each X f sound xs)

way_sound : (link : LibraryLinkValue) → are_sound_parts OtherPage (way_parts link) ≡ true
unfolding lines_of way_parts
way_sound link = refl

-- the beginning and the end of the list of links
abbrev mark : Template → List LibraryLinkValue → List Part
mark which links = with_values ((slot.Listed, list_mark (is_empty links)) ∷ []) (which ∷ [])

ways_sound : (links : List LibraryLinkValue) → are_sound_parts OtherPage (fragment_ways links) ≡ true
unfolding lines_of fragment_ways
ways_sound links =
    both (mark template.FragmentWays links) (flat_map way_parts links ++ mark template.FragmentEnd links) refl
    (both (flat_map way_parts links) (mark template.FragmentEnd links) (each LibraryLinkValue way_parts way_sound links) refl)

ways_to_sound : (site : site_file.SiteValue) (outcome : SearchOutcome) (cited : CitedTitleValue)
    → are_sound_parts OtherPage (fragment_ways_to site outcome cited) ≡ true
unfolding fragment_ways_to
ways_to_sound site outcome cited = ways_sound (library_links site Shown outcome cited)

card_sound : (site : site_file.SiteValue) (cited : List ℕ) (fit : Fit) (found : ReleaseHitValue) → are_sound_parts OtherPage (card_parts site cited fit found) ≡ true
unfolding lines_of card_with
card_sound site cited fit found = refl

cards_sound : (site : site_file.SiteValue) (cited : List ℕ) (fit : Fit) (rows : List ReleaseHitValue) → are_sound_parts OtherPage (cards site cited fit rows) ≡ true
cards_sound site cited fit rows = each ReleaseHitValue (card_parts site cited fit) (card_sound site cited fit) rows

start_sound : (site : site_file.SiteValue) (tally : TallyValue) (none : Bool) → are_sound_parts OtherPage (fragment_start site tally none) ≡ true
unfolding lines_of fragment_start
start_sound site tally none = refl

list_end_sound : (site : site_file.SiteValue) (tally : TallyValue) (none : Bool) → are_sound_parts OtherPage (list_end site tally none) ≡ true
unfolding lines_of list_end
list_end_sound site tally none = refl

end_sound : (site : site_file.SiteValue) (pairs : List (List ℕ × List ℕ)) (ask : QueryFactsValue) (tally : TallyValue) (none : Bool)
    → are_sound_parts OtherPage (fragment_end site pairs ask tally none) ≡ true
unfolding fragment_end
end_sound site pairs ask tally none =
    both (list_end site tally none) (fragment_ways_to site (outcome_of tally) (cited_of ask pairs)) (list_end_sound site tally none)
    (ways_to_sound site (outcome_of tally) (cited_of ask pairs))

hits_sound : (site : site_file.SiteValue) (pairs : List (List ℕ × List ℕ)) (ask : QueryFactsValue) (tally also others : TallyValue)
    → are_sound_parts OtherPage (fragment_parts site pairs ask tally also others) ≡ true
hits_sound site pairs ask tally also others =
    let cited = text_at ask.citation part.Title in
    let none = is_none tally also others in
    let last = fragment_end site pairs ask tally none in
    both (fragment_start site tally none)
    (cards site cited Hit tally.top ++ (cards site cited Dated also.top ++ (cards site cited Outside others.top ++ last)))
    (start_sound site tally none)
    (both (cards site cited Hit tally.top) (cards site cited Dated also.top ++ (cards site cited Outside others.top ++ last))
    (cards_sound site cited Hit tally.top)
    (both (cards site cited Dated also.top) (cards site cited Outside others.top ++ last) (cards_sound site cited Dated also.top)
    (both (cards site cited Outside others.top) last (cards_sound site cited Outside others.top) (end_sound site pairs ask tally none))))

reasons_sound : (site : site_file.SiteValue) (pairs : List (List ℕ × List ℕ)) → are_sound_parts OtherPage (fragment_reasons site pairs) ≡ true
unfolding lines_of fragment_reasons fragment_reasons_with
reasons_sound site pairs = refl

nothing_sound : (site : site_file.SiteValue) (pairs : List (List ℕ × List ℕ)) (ask : QueryFactsValue)
    → are_sound_parts OtherPage (nothing_fragment_parts site pairs ask) ≡ true
nothing_sound site pairs ask =
    both (fragment_reasons site pairs) (fragment_ways_to site Unknown (cited_of ask pairs)) (reasons_sound site pairs)
    (ways_to_sound site Unknown (cited_of ask pairs))

error_sound : (site : site_file.SiteValue) (name : List ℕ) → are_sound_parts OtherPage (error_fragment_parts site name) ≡ true
unfolding lines_of error_fragment_parts
error_sound site name = refl

-- a fragment has these parts
of : (site : site_file.SiteValue) (text : List ℕ) (parts : List Part) → text ≡ page_text site parts → are_sound_parts OtherPage parts ≡ true
    → HasPlacedTags OtherPage site text
of site text parts same sound = record {
  parts = parts;
  text = same;
  tags = subst (HasTagsOf OtherPage (page_html site parts)) (sym same) (parts_have_tags OtherPage site parts sound);
}

pub returns : goal.returns
unfolding fragment_of_hits fragment_of_nothing error_fragment
returns c = record {
  hits = λ site pairs ask tally also others.
      of site _ (fragment_parts site pairs ask tally also others) refl (hits_sound site pairs ask tally also others);
  nothing = λ site pairs ask. of site _ (nothing_fragment_parts site pairs ask) refl (nothing_sound site pairs ask);
  error = λ site name. of site _ (error_fragment_parts site name) refl (error_sound site name);
}
