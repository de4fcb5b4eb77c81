-- The hits of a query, each with its release and its availability, and the best link among them.
use Rattle.std.specs.Prelude.{ℕ, ℤ, ◌+◌, ◌*◌, ◌-◌, ◌&&◌, ◌||◌, not, Bool, true, false, nat_lt, if◌then◌else◌, List, [], ◌∷◌, codes, Option, Some, None, filter, map, option_map, unwrap_or}
use Rattle.std.specs.Str.{str_eq_ignore_ascii_case}
use Rattle.feed_names.specs.ReleaseName.{Name, text_of}
use Rattle.feed_bytes.specs.Trim.{trimmed}
use Rattle.feed_answer.specs.Today.{TodayValue}
use Rattle.feed_answer.specs.Availability.{availability_of}
use Rattle.feed_answer.specs.declared.availability.Availability.{Availability}
use Rattle.feed_answer.specs.declared.availability.Availability.TheVariants.{Available, Partly, NotCompared, Embargoed}
use Rattle.feed_dates.specs.DayRanges.{single_day}
use Rattle.feed_dates.specs.declared.day_range.DayRange.{DayRange}
use Rattle.feed_kbart.specs.Identifiers.{kind}
use Rattle.feed_kbart.specs.RowValue.{RowValue}
use Rattle.feed_kbart.specs.declared.identifiers.Kind.{Kind}
use Rattle.feed_kbart.specs.declared.identifiers.Kind.TheVariants.{Serial, Book}
use Rattle.feed_answer.specs.HitValue.{HitValue}
use Rattle.feed_answer.specs.QueryValue.{QueryValue}
use Rattle.feed_answer.specs.declared.grade.Grade.{Grade}
use Rattle.feed_answer.specs.declared.grade.Grade.TheVariants.{Inside, Overlap, Untested}
use Rattle.node_links.specs.Articles.{CitedLinksValue, article_link, with_title_id}
use Rattle.node_site.specs.Held.{library_has}
use Rattle.node_site.specs.Notes.{note_on}
use Rattle.node_site.specs.Packages.{package_place}
use Rattle.node_site.specs.Proxies.{PrefixValue, is_direct, prefix_for, through}
use Rattle.node_links.specs.Requests.{CitedTitleValue}
use Rattle.node_site.specs.Site as site_file
use Rattle.node_site.specs.Hosts.{is_link}
use Rattle.node_hits.specs.Searches.{SearchValue, compared, is_dated, is_first_as, whole_titles}
use Rattle.node_hits.specs.declared.search.Scope.{Scope}
use Rattle.node_hits.specs.declared.search.Scope.TheVariants.{Hits, Dated, Others}

-- a hit, its release, the days that are asked for of it, how those lie in the days that are open to readers, the prefix of the
-- link to its page, if that goes through a proxy, the link to the article, if there is one, the note for readers, the place of
-- its package in the order of the site, whether the library has all the days that are asked for, and whether it is a book that
-- comes before its series
pub record ReleaseHitValue : Type 0 where
  pub name : Name
  pub hit : HitValue
  pub asked : Option DayRange
  pub availability : Availability
  pub prefix : Option PrefixValue
  pub article : Option (List ℕ)
  pub note : List ℕ
  pub place : ℕ
  pub is_held_whole : Bool
  pub is_first : Bool

-- the trimmed text is this word, in any case
abbrev pub is_word : List ℕ → List ℕ → Bool
is_word word text = str_eq_ignore_ascii_case (trimmed text) word

-- the row is free to read (NISO RP-9-2014, access_type)
abbrev pub is_free : RowValue → Bool
is_free row = is_word (codes "F") row.access

-- the row covers full texts, selected articles or abstracts (coverage_depth)
abbrev pub is_full_text : RowValue → Bool
is_full_text row = is_word (codes "fulltext") row.depth

abbrev pub is_selection : RowValue → Bool
is_selection row = is_word (codes "selected articles") row.depth

abbrev pub is_abstracts : RowValue → Bool
is_abstracts row = is_word (codes "abstracts") row.depth

-- the days that are asked for of a title; those of a book are the days of its publication, which are not compared
abbrev pub days_asked : Kind → Option DayRange → Option DayRange
days_asked Serial days = days
days_asked Book days = None

-- the library has this day of a row of this release
abbrev pub holds_day : site_file.SiteValue → Name → RowValue → ℤ → Bool
holds_day site name row day = library_has site name.package_name row.title_id row.first_day row.last_day (Some (single_day day))

-- the library has the first and the last of the days that are asked for, if there are such. Its own days are those from one
-- to another, so it has all between
abbrev pub holds_days : site_file.SiteValue → Name → RowValue → Option DayRange → Bool
holds_days site name row None = true
holds_days site name row (Some days) = holds_day site name row days.first && holds_day site name row days.last

-- the days that are asked for are all open to readers, or they are not compared
abbrev pub is_open_or_unknown : Availability → Bool
is_open_or_unknown Available = true
is_open_or_unknown NotCompared = true
is_open_or_unknown availability = false

-- a search is for the rows that match the query
abbrev pub is_for_hits : Scope → Bool
is_for_hits Hits = true
is_for_hits scope = false

-- the row covers full texts, or does not say what it covers
abbrev pub may_be_full_text : RowValue → Bool
may_be_full_text row = is_full_text row || is_word [] row.depth

-- a row leads to the article: it matches the query, readers have it, and it may cover full texts
abbrev pub leads_to_article : Scope → Availability → RowValue → Bool
leads_to_article scope availability row = is_for_hits scope && (is_open_or_unknown availability && may_be_full_text row)

-- the citation of a search, for a row
abbrev pub cited_in : SearchValue → RowValue → CitedTitleValue
cited_in search row = with_title_id row.title_id search.cited

-- the link to the article that a query cites in a row of this release, if it has a known length
abbrev pub article_if : Option ℕ → site_file.SiteValue → CitedTitleValue → Name → RowValue → Option (List ℕ)
article_if None site cited name row = None
article_if (Some len) site cited name row = article_link site name.package_name row.url (is_free row) (with_title_id row.title_id cited)

-- the link to the article that a query cites in a row of this release, if the row leads to it
abbrev pub article_of : site_file.SiteValue → SearchValue → Availability → Name → RowValue → Option (List ℕ)
article_of site search availability name row =
    if leads_to_article search.scope availability row then article_link site name.package_name row.url (is_free row) (cited_in search row)
    else None

-- the links of a site for a search
abbrev pub links_of : site_file.SiteValue → SearchValue → CitedLinksValue
links_of site search = record { site = site; cited = with_title_id [] search.cited }

-- a hit of this release, for the readers of a library, today
abbrev pub release_hit : site_file.SiteValue → TodayValue → SearchValue → Name → HitValue → ReleaseHitValue
release_hit site today search name hit = record {
  name = name;
  hit = hit;
  asked = days_asked (kind hit.row.identifiers) (compared search).days;
  availability = availability_of today hit.row.embargo hit.row.first_day hit.row.last_day (compared search).days;
  prefix = prefix_for site hit.row.url (is_direct site name.package_name (is_free hit.row));
  article = article_of site search (availability_of today hit.row.embargo hit.row.first_day hit.row.last_day (compared search).days) name hit.row;
  note = unwrap_or (note_on site name.package_name hit.row.title_id) [];
  place = package_place site name.package_name;
  is_held_whole = holds_days site name hit.row (days_asked (kind hit.row.identifiers) (compared search).days);
  is_first = is_first_as (kind hit.row.identifiers) search.is_book_first;
}

-- the library has what is asked for of a hit of this release
abbrev pub is_held : site_file.SiteValue → QueryValue → Name → HitValue → Bool
is_held site query name hit =
    library_has site name.package_name hit.row.title_id hit.row.first_day hit.row.last_day (days_asked (kind hit.row.identifiers) query.days)

-- the library has the date that is asked for of a hit, whose row does not have the volume
abbrev pub is_held_dated : site_file.SiteValue → QueryValue → Name → HitValue → Bool
is_held_dated site query name hit = is_held site query name hit && is_dated query hit.row

-- the hit is searched for, and the library has it
abbrev pub is_found_as : Scope → site_file.SiteValue → QueryValue → Name → HitValue → Bool
is_found_as Hits site query name hit = is_held site query name hit
is_found_as Dated site query name hit = is_held_dated site query name hit
is_found_as Others site query name hit =
    is_held site (whole_titles query) name hit && not (is_held_dated site query name hit)

abbrev pub is_found : site_file.SiteValue → SearchValue → Name → HitValue → Bool
is_found site search name hit = is_found_as search.scope site search.query name hit

-- the hits of this release that are searched for
abbrev pub held_hits : site_file.SiteValue → SearchValue → Name → List HitValue → List HitValue
held_hits site search name hits = filter (is_found site search name) hits

-- the same for the library's readers, today
abbrev pub library_hits : site_file.SiteValue → TodayValue → SearchValue → Name → List HitValue → List ReleaseHitValue
library_hits site today search name hits = map (release_hit site today search name) (held_hits site search name hits)

-- the link to the page of a hit: its URL, or that through the proxy
abbrev pub page_text : ReleaseHitValue → List ℕ
page_text found = through found.prefix found.hit.row.url

-- the link of a hit: to the article, or else to its page
abbrev pub link_text : ReleaseHitValue → List ℕ
link_text found = unwrap_or found.article (page_text found)

-- the link to the article, or nothing
abbrev pub article_text : ReleaseHitValue → List ℕ
article_text found = unwrap_or found.article []

-- the text of a release's name
unfoldable pub name_text : Name → List ℕ
name_text name = text_of name

-- all days that the query asks for are open to readers
abbrev pub is_available : Availability → Bool
is_available Available = true
is_available availability = false

-- the row covers the whole of what is asked for
abbrev pub is_inside : Grade → Bool
is_inside Inside = true
is_inside grade = false

-- a reader may be sent to the hit without a choice: the days are open, the row covers them, it covers full texts, and the
-- library has all of them
abbrev pub is_certain : ReleaseHitValue → Bool
is_certain found = ((is_available found.availability && is_inside found.hit.grade) && is_full_text found.hit.row) && found.is_held_whole

-- the hit is open to readers: it is not under an embargo, and has more than abstracts
abbrev pub is_readable : Availability → Bool
is_readable Embargoed = false
is_readable availability = true

abbrev pub is_open : ReleaseHitValue → Bool
is_open found = is_readable found.availability && not (is_abstracts found.hit.row)

-- available ranks above partly available, that above not compared, and that above embargoed
abbrev pub availability_rank : Availability → ℕ
availability_rank Available = 3
availability_rank Partly = 2
availability_rank NotCompared = 1
availability_rank Embargoed = 0

-- inside ranks above overlap, and that above untested
abbrev pub grade_rank : Grade → ℕ
grade_rank Inside = 2
grade_rank Overlap = 1
grade_rank Untested = 0

-- full text that is free ranks above other full text, and that above everything else (NISO RP-9-2014, coverage_depth and
-- access_type)
abbrev pub text_rank : RowValue → ℕ
text_rank row =
    if is_full_text row then (if is_free row then 2 else 1) else 0

-- the rank of a place in the order of the site: the first is the highest. A site file, of at most 65,536 bytes, has fewer
-- packages
abbrev pub place_rank : ℕ → ℕ
place_rank place = 65535 - place

-- a book that comes before its series ranks above all others
abbrev pub first_rank : Bool → ℕ
first_rank is_first = if is_first then 1 else 0

-- the rank of a hit: by whether it is a book that comes first, then by its availability, then by its grade, then by its depth
-- and access, then by the order of the site
abbrev pub rank_by : Bool → Availability → Grade → RowValue → ℕ → ℕ
rank_by is_first availability grade row place =
    65536 * (36 * first_rank is_first + (9 * availability_rank availability + 3 * grade_rank grade + text_rank row)) + place_rank place

abbrev pub rank_of : ReleaseHitValue → ℕ
rank_of found = rank_by found.is_first found.availability found.hit.grade found.hit.row found.place

-- the rank and the link of a hit that may be linked to
pub record LinkValue : Type 0 where
  pub rank : ℕ
  pub url : List ℕ

abbrev pub link_with : ℕ → List ℕ → LinkValue
link_with rank url = record { rank = rank; url = url }

abbrev pub link_url : LinkValue → List ℕ
link_url link = link.url

abbrev pub own_link : ReleaseHitValue → LinkValue
own_link found = link_with (rank_of found) (link_text found)

abbrev pub link_of : ReleaseHitValue → Option LinkValue
link_of found = if is_link (link_text found) then Some (own_link found) else None

-- the one of higher rank; of equals the first
abbrev pub better : Option LinkValue → Option LinkValue → Option LinkValue
better None other = other
better (Some one) None = Some one
better (Some one) (Some other) = if nat_lt one.rank other.rank then Some other else Some one

-- the link of the hit with the highest rank; of equals the first
abbrev pub highest_link : List ReleaseHitValue → Option LinkValue
highest_link [] = None
highest_link (found ∷ more) = better (link_of found) (highest_link more)

-- its text
abbrev pub best_link : List ReleaseHitValue → Option (List ℕ)
best_link hits = option_map link_url (highest_link hits)
