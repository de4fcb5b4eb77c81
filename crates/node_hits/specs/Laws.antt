-- The laws of redirects and of hits in JSON.
use Rattle.std.specs.Prelude.{◌≡◌, ◌↔◌, ◌⊎◌, ◌<◌, ◌≤◌, ◌^◌, ◌/◌, max, min, ℕ, List, [], ◌∷◌, Some, true, false, All, length, map, sum, sum_by}
use Rattle.std.specs.List.{Contains, list_all}
use Rattle.std.specs.List.Sorted.{IsStrictlyIncreasing}
use Rattle.json.specs.Json.{document, array}
use Rattle.json.specs.Value.{items_of}
use Rattle.feed_names.specs.ReleaseName.{Name}
use Rattle.feed_answer.specs.Today.{TodayValue}
use Rattle.feed_answer.specs.declared.availability.Availability.TheVariants.{Available}
use Rattle.node_links.specs.Articles.{article_link}
use Rattle.node_site.specs.Proxies.{is_direct, proxied}
use Rattle.node_site.specs.Site as site_file
use Rattle.feed_answer.specs.HitValue.{HitValue}
use Rattle.feed_kbart.specs.Identifiers.{kind}
use Rattle.feed_kbart.specs.declared.identifiers.Kind.TheVariants.{Serial, Book}
use Rattle.feed_answer.specs.declared.grade.Grade.TheVariants.{Inside}
use Rattle.node_hits.specs.AnswerJson.{answer_json, answer_value}
use Rattle.node_hits.specs.QueryFacts.{QueryFactsValue}
use Rattle.node_site.specs.Hosts.{is_link}
use Rattle.feed_answer.specs.Answers.{answer_of}
use Rattle.feed_answer.specs.Places.{places_among}
use Rattle.feed_answer.specs.QueryValue.{QueryValue}
use Rattle.feed_kbart.specs.HoldingsValue.{HoldingsValue}
use Rattle.feed_kbart.specs.RowValue.{RowValue}
use Rattle.node_hits.specs.Hits.{ReleaseHitValue, best_link, cited_in, is_for_hits, is_free, is_full_text, is_open_or_unknown, library_hits, link_text, may_be_full_text, page_text}
use Rattle.node_hits.specs.Hits.{rank_of, release_hit}
use Rattle.node_hits.specs.Looks.{FoundValue, asked_places, looks_in, open_places, release_found, text_looks}
use Rattle.node_hits.specs.Shares.{having_rows, shares_of}
use Rattle.node_hits.specs.declared.shares.Shares.{Shares}
use Rattle.node_hits.specs.HitsJson.{hits_json, item_values}
use Rattle.node_hits.specs.Searches.{SearchValue, compared}
use Rattle.node_hits.specs.Ranks.{IsBestLink, IsPreferred}
use Rattle.node_hits.specs.Tallies.{TallyValue, counted, first_within, shown_limit, sole_link, tally_of, text_limit, text_size}
use Rattle.node_hits.specs.Tallying.{no_hits, with_releases, tally_from}

-- a redirect goes to a URL of `http` or `https` in visible ASCII, within the limit of a link
abbrev pub RedirectsToLink : Type 0
RedirectsToLink = (hits : List ReleaseHitValue) (url : List ℕ) → best_link hits ≡ Some url → is_link url ≡ true

-- the link to the page of a hit is its URL as the site of the library writes it
abbrev pub LinksAreProxied : Type 0
LinksAreProxied = (site : site_file.SiteValue) (today : TodayValue) (search : SearchValue) (name : Name) (hit : HitValue)
    → page_text (release_hit site today search name hit) ≡ proxied site hit.row.url (is_direct site name.package_name (is_free hit.row))

-- a hit has this link to the article: its row matches the query, readers have it, the row may cover full texts, and the site has
-- the link for what the query cites
pub record IsArticle (site : site_file.SiteValue) (search : SearchValue) (found : ReleaseHitValue) (link : List ℕ) : Type 0 where
  pub of_query : is_for_hits search.scope ≡ true
  pub open_or_unknown : is_open_or_unknown found.availability ≡ true
  pub full_or_unknown : may_be_full_text found.hit.row ≡ true
  pub means : article_link site found.name.package_name found.hit.row.url (is_free found.hit.row) (cited_in search found.hit.row) ≡ Some link

-- a hit has a link to the article exactly then, and it is then the link of the hit
abbrev pub ArticlesComeFirst : Type 0
ArticlesComeFirst = (site : site_file.SiteValue) (today : TodayValue) (search : SearchValue) (name : Name) (hit : HitValue) (link : List ℕ)
    → ((release_hit site today search name hit).article ≡ Some link ↔ IsArticle site search (release_hit site today search name hit) link)
    × (IsArticle site search (release_hit site today search name hit) link → link_text (release_hit site today search name hit) ≡ link)

-- no hit that may be linked to ranks above the best link
abbrev pub BestLinkRanksHighest : Type 0
BestLinkRanksHighest = (hits : List ReleaseHitValue) → IsBestLink hits (best_link hits)

-- the rank of one hit is higher than that of another exactly if it is better in the first respect in which they differ.
-- A book that comes before its series is better than a hit that does not. Then the availability counts, then the grade,
-- then the depth with the access, and then which of their packages the site lists first
abbrev pub RanksInOrder : Type 0
RanksInOrder = (one other : ReleaseHitValue) → (rank_of other < rank_of one) ↔ IsPreferred one other

-- where a book comes before its series, each hit that is a book ranks above each that is a serial
abbrev pub BooksComeFirst : Type 0
BooksComeFirst = (site : site_file.SiteValue) (today : TodayValue) (search : SearchValue) (name other_name : Name) (book serial : HitValue)
    → search.is_book_first ≡ true → kind book.row.identifiers ≡ Book → kind serial.row.identifiers ≡ Serial
    → rank_of (release_hit site today search other_name serial) < rank_of (release_hit site today search name book)

-- no release may have more, and all have a single hit: all days that are asked for are open, it covers the whole of what is
-- asked for, in full text, the library has all those days, and it may be linked to, by this link
pub record IsSoleHit (founds : List FoundValue) (url : List ℕ) : Type 0 where
  pub found : ReleaseHitValue
  pub all : list_all (λ release. release.is_whole) founds ≡ true
  pub sole : counted founds ≡ found ∷ []
  pub available : found.availability ≡ Available
  pub inside : found.hit.grade ≡ Inside
  pub full : is_full_text found.hit.row ≡ true
  pub whole : found.is_held_whole ≡ true
  pub link : is_link url ≡ true
  pub means : url ≡ link_text found

-- a sole link is that of such a hit; and such a hit has one, if its texts are within the limit of a response
abbrev pub SoleLinkIsOfSoleHit : Type 0
SoleLinkIsOfSoleHit = (founds : List FoundValue) (url : List ℕ)
    → (sole_link (tally_of founds) ≡ Some url → IsSoleHit founds url)
    × ((is : IsSoleHit founds url) → text_size is.found < text_limit → sole_link (tally_of founds) ≡ Some url)

-- what a tally says after some releases were added one after another
abbrev pub TallyTellsOfHits : Type 0
TallyTellsOfHits = (founds : List FoundValue) → tally_from (with_releases no_hits founds) ≡ tally_of founds

-- the shares among releases with so many rows each. Each has an equal share of the rows at least, and of the texts. They look
-- at no more than 5,000 rows in all, or at one of each release that has rows if these are more. All rows are looked at, if
-- they are no more
pub record AreShares (counts : List ℕ) (shares : Shares) : Type 0 where
  pub equal : max 1 (5000 / max 1 (having_rows counts)) ≤ shares.rows
  pub texts : shares.texts ≡ max 1 (5000 / max 1 (having_rows counts))
  pub bounded : sum_by (λ rows. min shares.rows rows) counts ≤ max 5000 (having_rows counts)
  pub all : sum counts ≤ 5000 → All (λ rows. rows ≤ shares.rows) counts

abbrev pub EachHasShare : Type 0
EachHasShare = (counts : List ℕ) → AreShares counts (shares_of counts)

-- a hit in a row that is looked at is counted, or its texts count and the release is not whole
abbrev pub HitsAreFound : Type 0
HitsAreFound = (shares : Shares) (site : site_file.SiteValue) (today : TodayValue) (search : SearchValue) (name : Name) (rows : List RowValue)
    (found : ReleaseHitValue) → Contains (looks_in shares site today search name rows) (Some found)
    → Contains (release_found shares site today search name rows).hits found
    ⊎ ((0 < text_looks found.hit.row) × ((release_found shares site today search name rows).is_whole ≡ false))

-- how many rows of each of some releases a search may look at, and what it finds in them within their shares
abbrev pub counts_of : site_file.SiteValue → SearchValue → List (Name × List RowValue) → List ℕ
counts_of site search releases = map (λ release. length (open_places site release.0 search.query release.1)) releases

abbrev pub found_in_all : site_file.SiteValue → TodayValue → SearchValue → List (Name × List RowValue) → List FoundValue
found_in_all site today search releases =
    map (λ release. release_found (shares_of (counts_of site search releases)) site today search release.0 release.1) releases

-- a search is bounded by a number: so many hits it counts in all releases together, and so much their texts count
pub record IsBounded (most : ℕ) (found : List ReleaseHitValue) : Type 0 where
  pub hits : length found ≤ most
  pub texts : sum_by (λ hit. text_looks hit.hit.row) found ≤ most

-- whatever releases there are, with whatever rows, a search counts 5,000 hits in all of them together at most. Their texts count
-- as 5,000 at most, by 250 bytes of each. If more releases have rows of the query, their number is the bound
abbrev pub SearchIsBounded : Type 0
SearchIsBounded = (site : site_file.SiteValue) (today : TodayValue) (search : SearchValue) (releases : List (Name × List RowValue))
    → IsBounded (max 5000 (having_rows (counts_of site search releases))) (counted (found_in_all site today search releases))

-- whatever the lists, the site and the query are, a response shows at most 1,000 hits, and their texts, the links to them and to
-- the article among these, have fewer than 524,288 bytes in all.
abbrev pub ShownHitsAreBounded : Type 0
ShownHitsAreBounded = (hits : List ReleaseHitValue)
    → (length (first_within shown_limit text_limit hits) ≤ 1000) × (sum_by text_size (first_within shown_limit text_limit hits) < 524288)

-- a release that is whole has exactly the hits of the core that are searched for and that the library has, in their order
abbrev pub WholeIsOfAnswer : Type 0
WholeIsOfAnswer = (shares : Shares) (site : site_file.SiteValue) (today : TodayValue) (search : SearchValue) (name : Name) (holdings : HoldingsValue)
    → (release_found shares site today search name holdings.rows).is_whole ≡ true
    → (release_found shares site today search name holdings.rows).hits ≡ library_hits site today search name (answer_of holdings (compared search))

-- the places at which a search looks in a release ascend, and are those of the rows that have one of the query's identifiers
pub record ArePlaces (query : QueryValue) (rows : List RowValue) : Type 0 where
  pub ascend : IsStrictlyIncreasing (asked_places query rows)
  pub same : (place : ℕ) → Contains (asked_places query rows) place ↔ Contains (places_among query rows) place

abbrev pub LooksAreAtPlaces : Type 0
LooksAreAtPlaces = (query : QueryValue) (rows : List RowValue) → ArePlaces query rows

-- the hits in JSON are, by its grammar (RFC 8259), an array with one object for each that is shown, in their order. It
-- has one more if others are left out. The numbers fit in 64 bits
abbrev pub HitsAreJson : Type 0
HitsAreJson = (tally : TallyValue) → All (λ found. found.hit.row.number < 2 ^ 64) tally.top → tally.count < 2 ^ 64
    → document (hits_json tally) ≡ Some (array (items_of (item_values tally)))

-- an answer in JSON is an object with the citation, the query that is looked up, the reason why none is, and the hits. Its last
-- members have the titles whose date is covered and whose volume is not, and the packages that may have more hits
abbrev pub AnswerIsJson : Type 0
AnswerIsJson = (ask : QueryFactsValue) (refused : List ℕ) (tally also : TallyValue)
    → All (λ found. found.hit.row.number < 2 ^ 64) tally.top → tally.count < 2 ^ 64
    → All (λ found. found.hit.row.number < 2 ^ 64) also.top → also.count < 2 ^ 64
    → document (answer_json ask refused tally also) ≡ Some (answer_value ask refused tally also)
