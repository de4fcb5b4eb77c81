-- The rows that a search looks at, and what it finds in them.
use Rattle.std.specs.Prelude.{ℕ, ◌+◌, ◌-◌, ◌/◌, ◌&&◌, nat_le, Bool, true, false, if◌then◌else◌, List, [], ◌∷◌, Option, Some, None, length, map, take}
use Rattle.std.specs.List.{filter_map}
use Rattle.feed_answer.specs.Today.{TodayValue}
use Rattle.feed_kbart.specs.Places.{places_by}
use Rattle.feed_kbart.specs.RowValue.{RowValue}
use Rattle.feed_names.specs.ReleaseName.{Name}
use Rattle.node_site.specs.Held.{may_hold}
use Rattle.node_site.specs.Site as site_file
use Rattle.feed_answer.specs.HitValue.{HitValue}
use Rattle.feed_answer.specs.Places.{hit_at}
use Rattle.feed_answer.specs.QueryValue.{QueryValue}
use Rattle.node_hits.specs.Hits.{ReleaseHitValue, is_found, release_hit}
use Rattle.feed_answer.specs.Grades.{has_named}
use Rattle.node_hits.specs.Searches.{SearchValue, compared}
use Rattle.node_hits.specs.declared.shares.Shares.{Shares}

-- a hit with long texts counts for so many bytes of each, since a search may read them all
abbrev pub look_size : ℕ
look_size = 250

-- what the texts of a row count as
abbrev pub text_looks : RowValue → ℕ
text_looks row =
    length row.title / look_size + length row.url / look_size + length row.title_id / look_size + length row.depth / look_size
    + length row.embargo / look_size + length row.access / look_size

-- the places of the rows that have one of the identifiers of a query, in file order
abbrev pub asked_places : QueryValue → List RowValue → List ℕ
asked_places query rows = places_by (has_named query) rows

-- the same in a release: none if the library has nothing of its package
abbrev pub open_places : site_file.SiteValue → Name → QueryValue → List RowValue → List ℕ
open_places site name query rows = if may_hold site name.package_name then asked_places query rows else []

-- a hit of the core in this release, if it is searched for and the library has it
abbrev pub hit_found : site_file.SiteValue → TodayValue → SearchValue → Name → Option HitValue → Option ReleaseHitValue
hit_found site today search name None = None
hit_found site today search name (Some hit) =
    if is_found site search name hit then Some (release_hit site today search name hit) else None

-- what a search finds in the rows of a release at some places
abbrev pub looks_at : site_file.SiteValue → TodayValue → SearchValue → Name → List RowValue → List ℕ → List (Option ReleaseHitValue)
looks_at site today search name rows places =
    map (λ place. hit_found site today search name (hit_at (compared search) rows place)) places

-- what it finds in its first rows, as many as its share
abbrev pub looks_in : Shares → site_file.SiteValue → TodayValue → SearchValue → Name → List RowValue → List (Option ReleaseHitValue)
looks_in shares site today search name rows =
    looks_at site today search name rows (take shares.rows (open_places site name search.query rows))

-- the hits that are found
abbrev pub found_in : List (Option ReleaseHitValue) → List ReleaseHitValue
found_in looks = filter_map (λ look. look) looks

-- those whose texts fit into a share; one that does not is skipped by itself
abbrev pub fitting : ℕ → List (Option ReleaseHitValue) → List ReleaseHitValue
fitting left [] = []
fitting left (None ∷ more) = fitting left more
fitting left (Some found ∷ more) =
    if nat_le (text_looks found.hit.row) left then found ∷ fitting (left - text_looks found.hit.row) more else fitting left more

-- none is skipped
abbrev pub are_fitting : ℕ → List (Option ReleaseHitValue) → Bool
are_fitting left [] = true
are_fitting left (None ∷ more) = are_fitting left more
are_fitting left (Some found ∷ more) =
    if nat_le (text_looks found.hit.row) left then are_fitting (left - text_looks found.hit.row) more else false

-- what a search finds in a release: the hits that are counted, and whether these are all
pub record FoundValue : Type 0 where
  pub name : Name
  pub hits : List ReleaseHitValue
  pub is_whole : Bool

abbrev pub release_found : Shares → site_file.SiteValue → TodayValue → SearchValue → Name → List RowValue → FoundValue
release_found shares site today search name rows = record {
  name = name;
  hits = fitting shares.texts (looks_in shares site today search name rows);
  is_whole = nat_le (length (open_places site name search.query rows)) shares.rows
      && are_fitting shares.texts (looks_in shares site today search name rows);
}
