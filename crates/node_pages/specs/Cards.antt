-- The cards of hits.
use Rattle.std.specs.Prelude.{ℕ, not, ◌&&◌, Bool, true, false, if◌then◌else◌, List, [], ◌∷◌, codes, Option, Some, None}
use Rattle.std.specs.List.{flat_map}
use Rattle.std.specs.Str.{bytes_eq}
use Rattle.feed_answer.specs.declared.availability.Availability.{Availability}
use Rattle.feed_answer.specs.declared.availability.Availability.TheVariants.{Available, Partly, NotCompared, Embargoed}
use Rattle.feed_answer.specs.Pairs.{is_empty}
use Rattle.feed_answer.specs.declared.grade.Grade.{Grade}
use Rattle.feed_answer.specs.declared.grade.Grade.TheVariants.{Inside, Overlap, Untested}
use Rattle.feed_kbart.specs.Identifiers.{kind}
use Rattle.feed_kbart.specs.declared.identifiers.Kind.{Kind}
use Rattle.feed_kbart.specs.declared.identifiers.Kind.TheVariants.{Book}
use Rattle.node_site.specs.Site as site_file
use Rattle.node_site.specs.Hosts.{shown_host}
use Rattle.node_site.specs.Packages.{shown_package}
use Rattle.node_site.specs.Texts.{text_of}
use Rattle.node_hits.specs.Hits.{ReleaseHitValue, article_text, page_text}
use Rattle.node_templates.specs.Values.{text_if, text_or_nothing}
use Rattle.node_templates.specs.Pages.{Part, with_values}
use Rattle.node_templates.specs.declared.slot.Slot.TheVariants as slot
use Rattle.node_templates.specs.declared.template.Template.TheVariants as template
use Rattle.node_site.specs.declared.text_table.Text.{Text}
use Rattle.node_site.specs.declared.text_table.Text.TheVariants as text
use Rattle.node_pages.specs.Coverage.{coverage_words}
use Rattle.node_pages.specs.Headings.{is_embargoed}
use Rattle.node_pages.specs.Openings.{opening_of, opening_words}
use Rattle.node_pages.specs.declared.card.Fit.{Fit}
use Rattle.node_pages.specs.declared.card.Fit.TheVariants.{Hit, Dated, Outside}

-- what is said before the button of rows that are not hits
abbrev pub unmatched_text : Fit → Option Text
unmatched_text Hit = None
unmatched_text Dated = Some text.VolumeOutside
unmatched_text Outside = Some text.Outside

abbrev pub is_hit : Fit → Bool
is_hit Hit = true
is_hit fit = false

-- how a hit fits what is asked for
abbrev pub grade_text : Grade → Text
grade_text Inside = text.Inside
grade_text Overlap = text.Overlap
grade_text Untested = text.Untested

-- a hit of this grade was compared, or may be: a book has no dates and no volumes
abbrev pub is_compared : Kind → Grade → Bool
is_compared Book Untested = false
is_compared kind grade = true

-- what is said of the grade of a hit, unless an embargo keeps it from readers
abbrev pub fit_text : Fit → ReleaseHitValue → Option Text
fit_text fit found =
    if is_hit fit && not (is_embargoed found.availability) && is_compared (kind found.hit.row.identifiers) found.hit.grade
    then Some (grade_text found.hit.grade) else None

-- the class that gives a fit its colour: green is all that is asked for, if no embargo keeps a part of it from readers
abbrev pub fit_class : Availability → Grade → List ℕ
fit_class Available Inside = codes "inside"
fit_class NotCompared Inside = codes "inside"
fit_class availability grade = codes "partly"

abbrev pub limit_by : site_file.SiteValue → Bool → Availability → Option (List ℕ) → List ℕ
limit_by site has_embargo Available date = []
limit_by site true Partly date = text_of site text.Partly
limit_by site false Partly date = []
limit_by site has_embargo NotCompared date = []
limit_by site has_embargo Embargoed date = opening_words site date

-- what is said before the button of a hit that an embargo keeps from readers, or a part of it
abbrev pub limit_words : site_file.SiteValue → ReleaseHitValue → List ℕ
limit_words site found = limit_by site (not (is_empty found.hit.row.embargo)) found.availability (opening_of found)

-- the title of a row, unless it is the one that is cited
abbrev pub title_shown : List ℕ → List ℕ → List ℕ
title_shown title cited = if bytes_eq title cited then [] else title

-- the card of a hit with this limit, this link to its page, this host and this coverage. The button leads to the article if
-- there is a link to it, and then the page has a second link
unfoldable pub card_with : site_file.SiteValue → List ℕ → Fit → ReleaseHitValue → List ℕ → List ℕ → List ℕ → List ℕ → List Part
card_with site cited fit found limit page host coverage = with_values (
    (slot.Package, shown_package site found.name.package_name)
    ∷ (slot.Title, title_shown found.hit.row.title cited)
    ∷ (slot.Unmatched, text_or_nothing site (unmatched_text fit))
    ∷ (slot.Limit, limit)
    ∷ (slot.ArticleLink, article_text found)
    ∷ (slot.PageLink, text_if (not (is_empty (article_text found))) page)
    ∷ (slot.Link, text_if (is_empty (article_text found)) page)
    ∷ (slot.Host, host)
    ∷ (slot.FitClass, fit_class found.availability found.hit.grade)
    ∷ (slot.Fit, text_or_nothing site (fit_text fit found))
    ∷ (slot.Note, found.note)
    ∷ (slot.Coverage, coverage)
    ∷ []) (template.Card ∷ [])

-- the card of a hit, beside a cited title: its links go through a proxy, if there is one
abbrev pub card_parts : site_file.SiteValue → List ℕ → Fit → ReleaseHitValue → List Part
card_parts site cited fit found =
    card_with site cited fit found (limit_words site found) (page_text found) (shown_host found.hit.row.url)
    (coverage_words site found.hit.row)

abbrev pub cards : site_file.SiteValue → List ℕ → Fit → List ReleaseHitValue → List Part
cards site cited fit rows = flat_map (card_parts site cited fit) rows
