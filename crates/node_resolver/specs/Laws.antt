-- The laws of responses.
use Rattle.std.specs.Prelude.{◌≡◌, ◌⊎◌, ◌<◌, max, ℕ, Bool, true, All, List, Some, map}
use Rattle.std.specs.List.{Contains, flat_map}
use Rattle.json.specs.Json.{document, array}
use Rattle.json.specs.Value.{items_of}
use Rattle.feed_answer.specs.Today.{TodayValue}
use Rattle.feed_names.specs.ReleaseName.{Name, text_of}
use Rattle.feed_answer.specs.Answers.{answer_of, answer_text}
use Rattle.feed_answer.specs.HitValue.{HitValue}
use Rattle.node_hits.specs.Searches.{SearchValue, compared}
use Rattle.feed_model.specs.History.{History, IsFile}
use Rattle.feed_releases.specs.Actives.{ActiveValue, ReportAlike}
use Rattle.node_request.specs.declared.representation.Representation.TheVariants.{Text, Json}
use Rattle.node_hits.specs.Hits.{ReleaseHitValue, held_hits, is_found, link_text, release_hit}
use Rattle.node_site.specs.Site as site_file
use Rattle.node_response.specs.Responses.{ResponseTextValue}
use Rattle.node_hits.specs.Laws.{AreShares, IsBounded}
use Rattle.node_hits.specs.Looks.{looks_in, text_looks}
use Rattle.node_hits.specs.Shares.{having_rows}
use Rattle.node_resolver.specs.Answers.{Sited, answers_body, found_among, hits_among, release_in, row_counts, shares_in, tally_among}
use Rattle.node_resolver.specs.Status.{IsCountable, active_value, status_body}
use Rattle.node_response.specs.Tags.{SiteValue}
use Rattle.node_resolver.specs.Responses.{IsResponseAt}
use Rattle.node_sites.specs.declared.node_sites.NodeSites.{NodeSites}
use Rattle.node_resolver.specs.NodeResponses.{IsNodeResponseAt, AsksForNoFetch, HaveSameSite}
use Rattle.node_request.specs.FetchRequests.{FetchPolicyValue}

-- the complete files that a node has stored are the published ones
abbrev pub KeepsPublished : (Name → List ℕ) → History → Type 0
KeepsPublished file h = (n : Name) (text : List ℕ) → IsFile h n text → text ≡ file n

-- two nodes of the same version, settings and site file that report the same releases, and have stored their published
-- files, give each request of a day the same bytes
abbrev pub SameReleasesSameBytes : Type 0
SameReleasesSameBytes =
    (file : Name → List ℕ) (site : SiteValue) (today : TodayValue) (h k : History) (bytes body : List ℕ) (keeps : Bool)
    (response reply : ResponseTextValue)
    → KeepsPublished file h → KeepsPublished file k → ReportAlike h k
    → IsResponseAt site today h bytes body keeps response → IsResponseAt site today k bytes body keeps reply → response ≡ reply

-- two nodes of the same version and settings respond to a request on a day with the same bytes, unless it asks them to
-- fetch. The condition is that they have the same site for the host of the request, report the same releases, and have
-- stored the published files. Their other sites and their tokens make no difference, nor does it matter whether they
-- are fetching
abbrev pub SameReleasesSameNodeBytes : Type 0
SameReleasesSameNodeBytes =
    (file : Name → List ℕ) (sites others : NodeSites) (today : TodayValue) (h k : History) (policy other : FetchPolicyValue)
    (bytes body : List ℕ) (keeps : Bool) (response reply : ResponseTextValue)
    → KeepsPublished file h → KeepsPublished file k → ReportAlike h k → HaveSameSite bytes sites others → AsksForNoFetch bytes
    → IsNodeResponseAt sites policy today h bytes body keeps response → IsNodeResponseAt others other today k bytes body keeps reply
    → response ≡ reply

-- the active releases in JSON are, by its grammar (RFC 8259), an array with one object for each, in their order
abbrev pub StatusIsJson : Type 0
StatusIsJson = (site : site_file.SiteValue) (actives : List ActiveValue) → All IsCountable actives
    → document (status_body site Json actives) ≡ Some (array (items_of (map active_value actives)))

-- a hit of the core in an active release, for the query that rows are compared with, that is searched for and that the
-- library has
pub record IsHeldHit (search : SearchValue) (actives : Sited) (found : ReleaseHitValue) : Type 0 where
  pub active : ActiveValue
  pub is_active : Contains actives.actives active
  pub hit : HitValue
  pub answers : Contains (answer_of active.holdings (compared search)) hit
  pub held : is_found actives.library search active.name hit ≡ true
  pub shown : found ≡ release_hit actives.library actives.today search active.name hit

-- each hit that is counted is such a hit, and each such hit is counted, if its release is whole
abbrev pub HitsAreHeld : Type 0
HitsAreHeld = (search : SearchValue) (actives : Sited) (found : ReleaseHitValue)
    → (Contains (hits_among search actives) found → IsHeldHit search actives found)
    × ((is : IsHeldHit search actives found)
    → (release_in (shares_in search actives) actives.library actives.today search is.active).is_whole ≡ true
    → Contains (hits_among search actives) found)

-- each release is looked at: let so many releases have rows that the query may look at. Of each, the first rows are looked at,
-- 5,000 divided by that number and one at least, whatever the others have. A hit in a row that is looked at is counted, or its
-- texts count and its release is said to have more. In all releases together the rows are no more than 5,000, unless more
-- releases than that have rows. If they have no more, all are looked at
pub record IsLookedAt (search : SearchValue) (actives : Sited) (active : ActiveValue) : Type 0 where
  pub shares : AreShares (row_counts actives.library search.query actives.actives) (shares_in search actives)
  pub found : Contains (found_among search actives) (release_in (shares_in search actives) actives.library actives.today search active)
  pub counted : (hit : ReleaseHitValue)
      → Contains (looks_in (shares_in search actives) actives.library actives.today search active.name active.holdings.rows) (Some hit)
      → Contains (hits_among search actives) hit
      ⊎ ((0 < text_looks hit.hit.row) × Contains (tally_among search actives).partial active.name)

abbrev pub EachReleaseIsLookedAt : Type 0
EachReleaseIsLookedAt =
    (search : SearchValue) (actives : Sited) (active : ActiveValue) → Contains actives.actives active → IsLookedAt search actives active

-- whatever the releases are, a search counts 5,000 hits in all of them together at most, and their texts count as 5,000 at most,
-- by 250 bytes of each. If more releases have rows that the query may look at, their number is the bound
abbrev pub EachSearchIsBounded : Type 0
EachSearchIsBounded = (search : SearchValue) (actives : Sited)
    → IsBounded (max 5000 (having_rows (row_counts actives.library search.query actives.actives))) (hits_among search actives)

-- the best link, of all hits or of the open ones, is that of such a hit
abbrev pub LinksAreHeld : Type 0
LinksAreHeld = (search : SearchValue) (actives : Sited) (url : List ℕ)
    → ((tally_among search actives).best ≡ Some url) ⊎ ((tally_among search actives).best_open ≡ Some url)
    → (found : ReleaseHitValue) × IsHeldHit search actives found × (url ≡ link_text found)

-- the answer of a release, as `Answer::write` prints it, without the hits that the library does not have
abbrev pub written_answer : site_file.SiteValue → SearchValue → ActiveValue → List ℕ
written_answer site search active =
    answer_text (text_of active.name) (held_hits site search active.name (answer_of active.holdings (compared search)))

-- a response that has all hits and shows them has, as text, the answers that `Answer::write` prints, of the
-- hits that the library has
abbrev pub WholeTextIsWritten : Type 0
WholeTextIsWritten =
    (text : List ℕ) (search : SearchValue) (actives : Sited) → (tally_among search actives).is_whole ≡ true
    → (tally_among search actives).shown ≡ hits_among search actives
    → answers_body Text text search actives ≡ flat_map (written_answer actives.library search) actives.actives
