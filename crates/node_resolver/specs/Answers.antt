-- The hits of a query in active releases on a day, and the body that lists them.
use Rattle.std.specs.Prelude.{ℕ, ◌==◌, ◌&&◌, ◌||◌, Bool, if◌then◌else◌, List, [], ◌∷◌, ◌++◌, drop, length, map, take, is_some}
use Rattle.std.specs.Str.{bytes_eq}
use Rattle.feed_answer.specs.Today.{TodayValue}
use Rattle.node_links.specs.Requests.{CitedTitleValue}
use Rattle.node_site.specs.Site as site_file
use Rattle.feed_answer.specs.QueryValue.{QueryValue}
use Rattle.feed_releases.specs.Actives.{ActiveValue}
use Rattle.node_request.specs.declared.representation.Representation.{Representation}
use Rattle.node_request.specs.declared.representation.Representation.TheVariants.{Text, Json, Html, Fragment, Sfx}
use Rattle.node_request.specs.SfxQueries.{sfx_options_in}
use Rattle.node_hits.specs.Hits.{ReleaseHitValue}
use Rattle.node_hits.specs.Looks.{FoundValue, open_places, release_found}
use Rattle.node_hits.specs.Shares.{shares_of}
use Rattle.node_hits.specs.declared.shares.Shares.{Shares}
use Rattle.node_hits.specs.AnswerJson.{answer_json}
use Rattle.node_hits.specs.QueryFacts.{ask_of}
use Rattle.node_hits.specs.Searches.{SearchValue, in_scope}
use Rattle.node_links.specs.Articles.{with_title_id}
use Rattle.node_hits.specs.declared.search.Scope.TheVariants as scope
use Rattle.node_hits.specs.HitsText.{release_text}
use Rattle.node_hits.specs.Sfx.{sfx_reply}
use Rattle.node_hits.specs.Tallies.{TallyValue, counted, tally_of}
use Rattle.node_pages.specs.Fragments.{hits_fragment}
use Rattle.node_pages.specs.HitsPage.{hits_page}
use Rattle.node_response.specs.Tags.{SiteValue}

-- the active releases, and the day on which they are asked
pub record Dated : Type 0 where
  pub today : TodayValue
  pub actives : List ActiveValue

abbrev pub dated : TodayValue → List ActiveValue → Dated
dated today actives = record { today = today; actives = actives }

-- the same for the readers of a library
pub record Sited : Type 0 where
  pub library : site_file.SiteValue
  pub today : TodayValue
  pub actives : List ActiveValue

abbrev pub sited_by : site_file.SiteValue → TodayValue → List ActiveValue → Sited
sited_by site today actives = record { library = site; today = today; actives = actives }

abbrev pub sited : SiteValue → Dated → Sited
sited site actives = sited_by site.library actives.today actives.actives

-- the release at a place alone
abbrev pub only_at : ℕ → Sited → Sited
only_at place actives = sited_by actives.library actives.today (take 1 (drop place actives.actives))

-- what responses are computed from, beside the requests: the settings of the node, and the active releases on the day
pub record ContextValue : Type 0 where
  pub site : SiteValue
  pub actives : Dated

abbrev pub sited_in : ContextValue → Sited
sited_in context = sited context.site context.actives

-- how many rows of each release a query may look at
abbrev pub row_counts : site_file.SiteValue → QueryValue → List ActiveValue → List ℕ
row_counts site query actives = map (λ active. length (open_places site active.name query active.holdings.rows)) actives

-- the shares of the releases
abbrev pub shares_in : SearchValue → Sited → Shares
shares_in search actives = shares_of (row_counts actives.library search.query actives.actives)

-- what a search finds in a release, within its shares
abbrev pub release_in : Shares → site_file.SiteValue → TodayValue → SearchValue → ActiveValue → FoundValue
release_in shares site today search active = release_found shares site today search active.name active.holdings.rows

-- what it finds in all the releases, in their order
abbrev pub found_by : Shares → SearchValue → Sited → List FoundValue
found_by shares search actives = map (release_in shares actives.library actives.today search) actives.actives

abbrev pub found_among : SearchValue → Sited → List FoundValue
found_among search actives = found_by (shares_in search actives) search actives

-- the hits that are counted
abbrev pub hits_among : SearchValue → Sited → List ReleaseHitValue
hits_among search actives = counted (found_among search actives)

-- the release belongs to the package
abbrev pub is_of : List ℕ → ActiveValue → Bool
is_of package_name active = bytes_eq active.name.package_name package_name

-- the tally of the hits in all the releases
abbrev pub tally_among : SearchValue → Sited → TallyValue
tally_among search actives = tally_of (found_among search actives)

-- the query names a date and a volume, or one of them
abbrev pub has_both : QueryValue → Bool
has_both query = is_some query.days && is_some query.volume

abbrev pub is_placed : QueryValue → Bool
is_placed query = is_some query.days || is_some query.volume

-- the rows of the same titles whose days are covered and whose volumes are not, if the query names both
abbrev pub also_beside : SearchValue → Sited → List FoundValue
also_beside search actives = if has_both search.query then found_among (in_scope scope.Dated search) actives else []

-- the other rows of the same titles, for any date and volume, which a query that names a date or a volume has if it has no
-- hits of its own
abbrev pub others_beside : ℕ → SearchValue → Sited → List FoundValue
others_beside count search actives =
    if (count == 0) && is_placed search.query then found_among (in_scope scope.Others search) actives else []

-- the answer to a query, before it is written: what the releases have of it, of the same titles for its date whatever the volume
-- is, and of the same titles whatever date and volume are
pub record AnswerValue : Type 0 where
  pub found : List FoundValue
  pub also : List FoundValue
  pub others : List FoundValue

abbrev pub answer_among : SearchValue → Sited → AnswerValue
answer_among search actives = record {
  found = found_among search actives;
  also = also_beside search actives;
  others = others_beside (tally_among search actives).count search actives;
}

-- the answers of releases as text, behind those in which this was found: the limits on what is shown are on all
abbrev pub texts_behind : List FoundValue → List FoundValue → List ℕ
texts_behind earlier [] = []
texts_behind earlier (found ∷ more) =
    release_text (tally_of earlier) (tally_of (earlier ++ found ∷ [])) found.name ++ texts_behind (earlier ++ found ∷ []) more

-- the body of an answer for the readers of a library, for what this text asks; as text, an answer does not repeat the query
unfoldable pub body_by : Representation → site_file.SiteValue → List ℕ → CitedTitleValue → AnswerValue → List ℕ
body_by Text site text cited answer = texts_behind [] answer.found
body_by Json site text cited answer = answer_json (ask_of text) [] (tally_of answer.found) (tally_of answer.also)
body_by Html site text cited answer =
    hits_page site text (ask_of text) (tally_of answer.found) (tally_of answer.also) (tally_of answer.others)
body_by Fragment site text cited answer =
    hits_fragment site text (ask_of text) (tally_of answer.found) (tally_of answer.also) (tally_of answer.others)
body_by Sfx site text cited answer = sfx_reply (sfx_options_in text) site (tally_of answer.found) cited

-- the same of the answer to a query from these releases
abbrev pub answers_body : Representation → List ℕ → SearchValue → Sited → List ℕ
answers_body representation text search actives =
    body_by representation actives.library text (with_title_id [] search.cited) (answer_among search actives)
