-- Laws of the pages.
use Rattle.std.specs.Prelude.{◌≡◌, ◌<◌, ◌≤◌, ◌^◌, ◌-◌, ℕ, Bool, true, List, ◌++◌, Option, codes, length, take}
use Rattle.std.specs.Fmt.{decimal}
use Rattle.std.specs.List.{flat_map, list_all}
use Rattle.node_response.specs.Escapes.{escaped}
use Rattle.node_templates.specs.Filled.{is_filled}
use Rattle.node_templates.specs.Laws.{page_html}
use Rattle.node_templates.specs.Pages.{Part, page_text}
use Rattle.node_templates.specs.Tags.{HasTagsOf, OtherPage, OwnPage, Place}
use Rattle.node_site.specs.Packages.{shown_package}
use Rattle.node_site.specs.Texts.{text_of}
use Rattle.node_site.specs.declared.text_table.Text.{Text}
use Rattle.node_site.specs.declared.text_table.Text.TheVariants as words
use Rattle.feed_releases.specs.Actives.{ActiveValue}
use Rattle.node_site.specs.Site as site_file
use Rattle.node_hits.specs.QueryFacts.{QueryFactsValue}
use Rattle.node_hits.specs.Hits.{ReleaseHitValue}
use Rattle.node_hits.specs.Tallies.{TallyValue}
use Rattle.node_titles.specs.Titles.{EntryValue}
use Rattle.node_titles.specs.Walks.{WalkValue}
use Rattle.node_pages.specs.Cards.{card_parts}
use Rattle.node_pages.specs.Citations.{cited_top}
use Rattle.node_pages.specs.ErrorPages.{error_page, error_parts}
use Rattle.node_pages.specs.Fragments.{error_fragment, error_fragment_parts, fragment_end, fragment_of_hits, fragment_of_nothing, fragment_start}
use Rattle.node_pages.specs.Fragments.{nothing_fragment_parts}
use Rattle.node_pages.specs.HitsPage.{hits_end, hits_start, page_of_hits}
use Rattle.node_pages.specs.HomePage.{form_page, home_limit, home_page, listed, package_parts, packages_end, status_page}
use Rattle.node_pages.specs.QueryRefusals.{nothing_parts, page_of_nothing}
use Rattle.node_pages.specs.TitlesPage as titles
use Rattle.node_pages.specs.declared.card.Fit.{Fit}

-- each slot of a template has a value
abbrev pub are_filled : List Part → Bool
are_filled parts = list_all (λ (part : Part). is_filled part.1 part.0) parts

-- so it is in each part of a page, but for the fields of the empty form
pub record SlotsAreGiven : Type 0 where
  pub citation : (site : site_file.SiteValue) (heading : List ℕ) (pairs : List (List ℕ × List ℕ)) (ask : QueryFactsValue)
      → are_filled (cited_top site heading pairs ask) ≡ true
  pub hits_start : (site : site_file.SiteValue) (tally : TallyValue) (is_none : Bool) → are_filled (hits_start site tally is_none) ≡ true
  pub card : (site : site_file.SiteValue) (cited : List ℕ) (fit : Fit) (found : ReleaseHitValue) → are_filled (card_parts site cited fit found) ≡ true
  pub hits_end : (site : site_file.SiteValue) (pairs : List (List ℕ × List ℕ)) (ask : QueryFactsValue) (tally : TallyValue) (is_none : Bool)
      → are_filled (hits_end site pairs ask tally is_none) ≡ true
  pub nothing : (site : site_file.SiteValue) (pairs : List (List ℕ × List ℕ)) (ask : QueryFactsValue) → are_filled (nothing_parts site pairs ask) ≡ true
  pub error : (site : site_file.SiteValue) (pairs : List (List ℕ × List ℕ)) (advice : Text) (name : List ℕ)
      → are_filled (error_parts site pairs advice name) ≡ true
  pub titles_start : (site : site_file.SiteValue) (asked : List ℕ) (is_empty : Bool) → are_filled (titles.titles_start site asked is_empty) ≡ true
  pub title : (site : site_file.SiteValue) (entry : EntryValue) → are_filled (titles.title_card site entry) ≡ true
  pub titles_end : (asked : List ℕ) (walk : WalkValue) → are_filled (titles.titles_end asked walk) ≡ true
  pub item : (site : site_file.SiteValue) (active : ActiveValue) → are_filled (package_parts site active) ≡ true
  pub packages_end : (mark : List ℕ) (left : Option ℕ) → are_filled (packages_end mark left) ≡ true
  pub fragment_start : (site : site_file.SiteValue) (tally : TallyValue) (is_none : Bool) → are_filled (fragment_start site tally is_none) ≡ true
  pub fragment_end : (site : site_file.SiteValue) (pairs : List (List ℕ × List ℕ)) (ask : QueryFactsValue) (tally : TallyValue) (is_none : Bool)
      → are_filled (fragment_end site pairs ask tally is_none) ≡ true
  pub nothing_fragment : (site : site_file.SiteValue) (pairs : List (List ℕ × List ℕ)) (ask : QueryFactsValue)
      → are_filled (nothing_fragment_parts site pairs ask) ≡ true
  pub error_fragment : (site : site_file.SiteValue) (name : List ℕ) → are_filled (error_fragment_parts site name) ≡ true

-- a page of templates, or a fragment, which has their tags alone
pub record HasPlacedTags (place : Place) (site : site_file.SiteValue) (page : List ℕ) : Type 0 where
  pub parts : List Part
  pub text : page ≡ page_text site parts
  pub tags : HasTagsOf place (page_html site parts) page

abbrev pub HasItsTags : site_file.SiteValue → List ℕ → Type 0
HasItsTags site page = HasPlacedTags OwnPage site page

-- whatever a list, a query or a site file says, each page has the tags of its templates alone, and its addresses are
-- safe
pub record PagesHaveTheirTags : Type 0 where
  pub hits : (site : site_file.SiteValue) (pairs : List (List ℕ × List ℕ)) (ask : QueryFactsValue) (tally also others : TallyValue)
      → HasItsTags site (page_of_hits site pairs ask tally also others)
  pub nothing : (site : site_file.SiteValue) (pairs : List (List ℕ × List ℕ)) (ask : QueryFactsValue) → HasItsTags site (page_of_nothing site pairs ask)
  pub error : (site : site_file.SiteValue) (pairs : List (List ℕ × List ℕ)) (advice : Text) (name : List ℕ)
      → HasItsTags site (error_page site pairs advice name)
  pub form : (site : site_file.SiteValue) → HasItsTags site (form_page site)
  pub home : (site : site_file.SiteValue) (actives : List ActiveValue) → HasItsTags site (home_page site actives)
  pub status : (site : site_file.SiteValue) (actives : List ActiveValue) → HasItsTags site (status_page site actives)
  pub titles_form : (site : site_file.SiteValue) (heading note name : List ℕ)
      → HasItsTags site (titles.titles_form_page site heading note name)
  pub titles : (site : site_file.SiteValue) (asked : List ℕ) (walk : WalkValue) → HasItsTags site (titles.titles_page site asked walk)

-- whatever they say, a fragment has neither a form, nor a style, nor a script, and no attribute but the class, the language
-- and the address of an element. Each address is one of `http` or of `https`, so that it is the same in each page
pub record FragmentsSuitOtherPages : Type 0 where
  pub hits : (site : site_file.SiteValue) (pairs : List (List ℕ × List ℕ)) (ask : QueryFactsValue) (tally also others : TallyValue)
      → HasPlacedTags OtherPage site (fragment_of_hits site pairs ask tally also others)
  pub nothing : (site : site_file.SiteValue) (pairs : List (List ℕ × List ℕ)) (ask : QueryFactsValue)
      → HasPlacedTags OtherPage site (fragment_of_nothing site pairs ask)
  pub error : (site : site_file.SiteValue) (name : List ℕ) → HasPlacedTags OtherPage site (error_fragment site name)

-- a package as an item of a list
abbrev pub item_text : site_file.SiteValue → ActiveValue → List ℕ
item_text site active = codes "<li><bdi>" ++ (escaped (shown_package site active.name.package_name) ++ codes "</bdi></li>\n")

-- packages as a list
abbrev pub list_text : site_file.SiteValue → List ActiveValue → List ℕ
list_text site actives = codes "<ul>\n" ++ (flat_map (item_text site) actives ++ codes "</ul>\n")

-- how many packages are not shown, as a link to all
abbrev pub left_text : site_file.SiteValue → ℕ → List ℕ
left_text site left =
    codes "<p><a href=\"/status?format=html\">" ++ (escaped (text_of site words.NotShown) ++ (codes " " ++ (decimal left ++ codes "</a></p>\n")))

-- a page has this text in it
pub record HasText (page text : List ℕ) : Type 0 where
  pub before : List ℕ
  pub after : List ℕ
  pub same : page ≡ before ++ (text ++ after)

-- the page of `/status` lists all packages whose lists have rows. The home page is the same if they are few. Else it lists the
-- first ones, and then says how many it does not show, if 64 bits can count the packages
pub record PackagesAreListed : Type 0 where
  pub all : (site : site_file.SiteValue) (actives : List ActiveValue) → 0 < length (listed actives)
      → HasText (status_page site actives) (list_text site (listed actives))
  pub few : (site : site_file.SiteValue) (actives : List ActiveValue) → length (listed actives) ≤ home_limit
      → home_page site actives ≡ status_page site actives
  pub many : (site : site_file.SiteValue) (actives : List ActiveValue) → home_limit < length (listed actives) → length actives < 2 ^ 64
      → HasText (home_page site actives) (list_text site (take home_limit (listed actives)) ++ left_text site (length (listed actives) - home_limit))
