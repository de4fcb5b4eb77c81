-- The titles that contain a text, as an HTML page, and the response to a query for them.
use Rattle.std.specs.Prelude.{ℕ, Bool, List, [], ◌∷◌, ◌++◌, codes, Result, Ok, Err}
use Rattle.std.specs.List.{flat_map}
use Rattle.percent_encoding.specs.Percent.{percent_encode}
use Rattle.percent_encoding.specs.declared.ascii_set.TheConstants.{NON_ALPHANUMERIC}
use Rattle.feed_answer.specs.Pairs.{is_empty}
use Rattle.feed_kbart.specs.Identifiers.{online_isbn, online_issn, print_isbn, print_issn}
use Rattle.feed_kbart.specs.RowValue.{RowValue}
use Rattle.feed_releases.specs.Actives.{ActiveValue}
use Rattle.node_site.specs.Packages.{shown_package}
use Rattle.node_site.specs.Site as site_file
use Rattle.node_site.specs.Texts.{text_of}
use Rattle.node_site.specs.declared.text_table.Text.TheVariants as text
use Rattle.node_request.specs.declared.representation.Representation.{Representation}
use Rattle.node_request.specs.declared.representation.Representation.TheVariants.{Text, Json, Html, Fragment, Sfx}
use Rattle.node_response.specs.Responses.{ResponseValue, refusal, response_with}
use Rattle.node_response.specs.declared.status.Status.TheVariants as status
use Rattle.node_titles.specs.TitleSearches.{TitleSearchValue, ask_of}
use Rattle.node_titles.specs.Titles.{EntryValue}
use Rattle.node_titles.specs.Walks.{WalkValue, titles_from}
use Rattle.node_titles.specs.declared.title_search.TitleFault.{TitleFault}
use Rattle.node_titles.specs.declared.title_search.TitleFault.TheVariants as fault
use Rattle.node_pages.specs.Coverage.{coverage_words}
use Rattle.node_templates.specs.Values.{text_if}
use Rattle.node_templates.specs.Pages.{Part, page_text, with_values}
use Rattle.node_templates.specs.declared.slot.Slot.TheVariants as slot
use Rattle.node_templates.specs.declared.template.Template.TheVariants as template
use Rattle.node_pages.specs.HitsPage.{digits_of}
use Rattle.node_pages.specs.Lists.{list_mark}
use Rattle.node_pages.specs.Titles.{between, title_pairs, titles_json, titles_text}
use Rattle.node_pages.specs.declared.titles_page.TheConstants.{LIST_START, LIST_END, FORM_PAGE}

-- the identifiers of a row, each as a sentence, and what it covers
abbrev pub title_words : site_file.SiteValue → RowValue → List ℕ
title_words site row =
    between (codes "ISSN ") (print_issn row.identifiers) (codes ". ")
    ++ (between (codes "ISSN ") (online_issn row.identifiers) (codes ". ")
    ++ (between (codes "ISBN ") (print_isbn row.identifiers) (codes ". ")
    ++ (between (codes "ISBN ") (online_isbn row.identifiers) (codes ". ")
    ++ coverage_words site row)))

-- the card of a title
unfoldable pub title_card : site_file.SiteValue → EntryValue → List Part
title_card site entry = with_values (
    (slot.Numbers, title_pairs entry.row.identifiers)
    ∷ (slot.Title, entry.row.title)
    ∷ (slot.Package, shown_package site entry.name.package_name)
    ∷ (slot.Coverage, title_words site entry.row)
    ∷ []) (template.TitleCard ∷ [])

abbrev pub title_cards : site_file.SiteValue → List EntryValue → List Part
title_cards site found = flat_map (title_card site) found

-- the form, and that no title is found, if none is
abbrev pub titles_start : site_file.SiteValue → List ℕ → Bool → List Part
titles_start site asked is_empty = with_values (
    (slot.Heading, text_of site text.FindTitles)
    ∷ (slot.Wanted, asked)
    ∷ (slot.Note, text_if is_empty (text_of site text.NoTitles))
    ∷ (slot.Listed, list_mark is_empty)
    ∷ []) LIST_START

-- the order of the titles, and the link to the next ones, if rows are left
unfoldable pub titles_end : List ℕ → WalkValue → List Part
titles_end asked walk = with_values (
    (slot.Listed, list_mark (is_empty walk.found))
    ∷ (slot.Encoded, percent_encode NON_ALPHANUMERIC asked)
    ∷ (slot.Start, digits_of walk.next)
    ∷ []) LIST_END

-- the page with the form and the rows
abbrev pub titles_parts : site_file.SiteValue → List ℕ → WalkValue → List Part
titles_parts site asked walk =
    titles_start site asked (is_empty walk.found) ++ (title_cards site walk.found ++ titles_end asked walk)

unfoldable pub titles_page : site_file.SiteValue → List ℕ → WalkValue → List ℕ
titles_page site asked walk = page_text site (titles_parts site asked walk)

-- the rows that a walk found; no query names the last two representations for them
unfoldable pub titles_body : site_file.SiteValue → Representation → TitleSearchValue → WalkValue → List ℕ
titles_body site Text ask walk = titles_text walk
titles_body site Json ask walk = titles_json ask walk
titles_body site Html ask walk = titles_page site ask.text walk
titles_body site Fragment ask walk = titles_page site ask.text walk
titles_body site Sfx ask walk = titles_text walk

-- the name of a fault
abbrev pub fault_text : TitleFault → List ℕ
fault_text fault.NoText = codes "NoText"
fault_text fault.TooLong = codes "TooLong"
fault_text fault.BadStart = codes "BadStart"

-- the form alone, under this heading, and below a statement and the name of an error, if there are any
abbrev pub form_parts : List ℕ → List ℕ → List ℕ → List Part
form_parts heading note name = with_values ((slot.Heading, heading) ∷ (slot.Note, note) ∷ (slot.Fault, name) ∷ []) FORM_PAGE

unfoldable pub titles_form_page : site_file.SiteValue → List ℕ → List ℕ → List ℕ → List ℕ
titles_form_page site heading note name = page_text site (form_parts heading note name)

-- a browser that asks for nothing gets the form
abbrev pub titles_refusal : site_file.SiteValue → Representation → TitleFault → ResponseValue
titles_refusal site Html fault.NoText = response_with status.Good Html (titles_form_page site (text_of site text.FindTitles) [] [])
titles_refusal site Html why =
    response_with status.BadRequest Html
    (titles_form_page site (text_of site text.NotAnswered) (text_of site text.TitlesNotRead) (fault_text why))
titles_refusal site Text why = refusal status.BadRequest Text (fault_text why)
titles_refusal site Json why = refusal status.BadRequest Json (fault_text why)
titles_refusal site Fragment why = refusal status.BadRequest Fragment (fault_text why)
titles_refusal site Sfx why = refusal status.BadRequest Sfx (fault_text why)

abbrev pub titles_by : site_file.SiteValue → Representation → List ActiveValue → Result TitleSearchValue TitleFault → ResponseValue
titles_by site representation actives (Ok ask) =
    response_with status.Good representation (titles_body site representation ask (titles_from site ask.text ask.start actives))
titles_by site representation actives (Err why) = titles_refusal site representation why

-- the response to a query for titles in these releases
abbrev pub titles_response : site_file.SiteValue → Representation → List ℕ → List ActiveValue → ResponseValue
titles_response site representation query actives = titles_by site representation actives (ask_of query)
