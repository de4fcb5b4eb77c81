-- The heading of a page of hits.
use Rattle.std.specs.Prelude.{ℕ, ◌==◌, ◌&&◌, Bool, true, false, not, if◌then◌else◌, List}
use Rattle.std.specs.List.{list_all, list_any}
use Rattle.feed_answer.specs.declared.availability.Availability.{Availability}
use Rattle.feed_answer.specs.declared.availability.Availability.TheVariants.{Embargoed}
use Rattle.node_hits.specs.Hits.{ReleaseHitValue, is_abstracts, is_full_text}
use Rattle.node_hits.specs.Tallies.{TallyValue, shows_all}
use Rattle.node_site.specs.Site as site_file
use Rattle.node_site.specs.Texts.{text_of}
use Rattle.node_site.specs.declared.text_table.Text.{Text}
use Rattle.node_site.specs.declared.text_table.Text.TheVariants as text
use Rattle.node_pages.specs.Openings.{earliest, opening_words}

-- none of the days that are asked for is open to readers
abbrev pub is_embargoed : Availability → Bool
is_embargoed Embargoed = true
is_embargoed availability = false

abbrev pub has_full_text : ReleaseHitValue → Bool
has_full_text found = is_full_text found.hit.row

-- full text that no embargo keeps from readers
abbrev pub is_readable : ReleaseHitValue → Bool
is_readable found = has_full_text found && not (is_embargoed found.availability)

abbrev pub has_abstracts : ReleaseHitValue → Bool
has_abstracts found = is_abstracts found.hit.row

-- there is full text, and an embargo keeps all of it from readers
abbrev pub is_waiting : List ReleaseHitValue → Bool
is_waiting hits = not (list_any is_readable hits) && list_any has_full_text hits

-- a search that stops without a hit does not say that there are none
abbrev pub none_name : Bool → Text
none_name is_whole = if is_whole then text.NoFullText else text.NoFullTextSoFar

-- the heading over hits, by whether all of them are shown: full text only if readers may see it, and an abstract only if there
-- is nothing else
abbrev pub found_name : Bool → List ReleaseHitValue → Text
found_name is_all hits =
    if list_any is_readable hits then text.FullText
    else if is_all && list_all has_abstracts hits then text.AbstractOnly
    else text.Held

abbrev pub name_of : TallyValue → Text
name_of tally = if tally.count == 0 then none_name tally.is_whole else found_name (shows_all tally) tally.top

-- the heading of the page: full text under an embargo has the day from which it is open, if that is known
abbrev pub heading : site_file.SiteValue → TallyValue → List ℕ
heading site tally = if is_waiting tally.top then opening_words site (earliest tally.top) else text_of site (name_of tally)
