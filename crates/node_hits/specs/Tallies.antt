-- The hits of a query that a response counts, shows and chooses from.
use Rattle.std.specs.Prelude.{ℕ, ◌+◌, ◌-◌, ◌==◌, ◌&&◌, nat_lt, Bool, if◌then◌else◌, List, [], ◌∷◌, length, filter, Option, None}
use Rattle.std.specs.List.{flat_map, list_all, list_any}
use Rattle.std.specs.Option.{option_or}
use Rattle.node_site.specs.Proxies.{room_of}
use Rattle.node_site.specs.declared.occasion.SearchOutcome.{SearchOutcome}
use Rattle.node_site.specs.declared.occasion.SearchOutcome.TheVariants as outcome
use Rattle.feed_names.specs.ReleaseName.{Name}
use Rattle.node_hits.specs.Hits.{ReleaseHitValue, article_text, name_text, best_link, is_certain, is_open}
use Rattle.node_hits.specs.Looks.{FoundValue}
use Rattle.node_hits.specs.Ranks.{ranked}

-- the most hits that a response shows
abbrev pub shown_limit : ℕ
shown_limit = 1000

-- the most packages that a response names
abbrev pub named_limit : ℕ
named_limit = 5

-- the texts of the hits that a response shows have fewer bytes than this
abbrev pub text_limit : ℕ
text_limit = 524288

-- the bytes in the texts of a hit, with room for the link to its page
abbrev pub text_size : ReleaseHitValue → ℕ
text_size found =
    length found.name.package_name + length (name_text found.name) + length found.hit.row.title + room_of found.prefix found.hit.row.url
    + length found.hit.row.title_id + length found.hit.row.depth + length found.hit.row.embargo + length found.hit.row.access
    + length (article_text found) + length found.note

-- the first hits: at most so many, and whose texts have fewer than so many bytes in all
abbrev pub first_within : ℕ → ℕ → List ReleaseHitValue → List ReleaseHitValue
first_within places bytes [] = []
first_within places bytes (found ∷ more) =
    if nat_lt 0 places && nat_lt 0 (bytes - text_size found)
    then found ∷ first_within (places - 1) (bytes - text_size found) more
    else []

-- what a response needs to know of the hits of a query: text shows the first ones, JSON and a page those of the highest
-- ranks; whether these are all hits of all releases, and the releases that may have more; the best link of all hits, the best
-- link of open hits, and whether there is an open hit
pub record TallyValue : Type 0 where
  pub count : ℕ
  pub is_whole : Bool
  pub partial : List Name
  pub shown : List ReleaseHitValue
  pub top : List ReleaseHitValue
  pub best : Option (List ℕ)
  pub best_open : Option (List ℕ)
  pub has_open : Bool

-- the hits in some releases
abbrev pub counted : List FoundValue → List ReleaseHitValue
counted founds = flat_map (λ found. found.hits) founds

-- the release, if more may be in it
abbrev pub partial_name : FoundValue → List Name
partial_name found = if found.is_whole then [] else found.name ∷ []

-- the tally of what a search finds in releases: how many hits there are, whether these are all, the releases that may have
-- more, the first hits, those of the highest ranks, the best links among them, and whether one is open
abbrev pub tally_of : List FoundValue → TallyValue
tally_of founds = record {
  count = length (counted founds);
  is_whole = list_all (λ found. found.is_whole) founds;
  partial = flat_map partial_name founds;
  shown = first_within shown_limit text_limit (counted founds);
  top = first_within shown_limit text_limit (ranked (counted founds));
  best = best_link (counted founds);
  best_open = best_link (filter is_open (counted founds));
  has_open = list_any is_open (counted founds);
}

-- the outcome of a search. It is unknown if no open hit is found and a release may have more
abbrev pub outcome_of : TallyValue → SearchOutcome
outcome_of tally =
    if tally.has_open then outcome.Hits
    else if tally.is_whole then (if tally.count == 0 then outcome.NoHits else outcome.Embargoed)
    else outcome.Unknown

-- where a redirect leads: to the best open hit, or else to a link of the library, or else to the best hit
abbrev pub followed_link : Option (List ℕ) → TallyValue → Option (List ℕ)
followed_link library tally = option_or tally.best_open (option_or library tally.best)

-- a link, if a reader may be sent to the first of some hits without a choice
abbrev pub link_if_certain : List ReleaseHitValue → Option (List ℕ) → Option (List ℕ)
link_if_certain [] link = None
link_if_certain (found ∷ more) link = if is_certain found then link else None

-- the link of the sole hit, if no release may have more, there is only one and a reader may be sent there without a choice
abbrev pub sole_link : TallyValue → Option (List ℕ)
sole_link tally = if tally.is_whole && (tally.count == 1) then link_if_certain tally.shown tally.best else None

-- how many of the counted hits JSON and a page do not show
abbrev pub left_out : TallyValue → ℕ
left_out tally = tally.count - length tally.top

-- JSON and a page show all hits
abbrev pub shows_all : TallyValue → Bool
shows_all tally = tally.is_whole && (left_out tally == 0)
