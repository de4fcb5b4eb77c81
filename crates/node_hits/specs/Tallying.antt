-- How a tally is made, one release after another.
use Rattle.std.specs.Prelude.{ℕ, ◌+◌, ◌-◌, ◌<◌, ◌≤◌, ◌&&◌, ◌||◌, nat_lt, Bool, true, false, if◌then◌else◌, List, [], ◌∷◌, ◌++◌, Option, Some, None, fold}
use Rattle.std.specs.Prelude.{insert, length, option_map, reverse, take}
use Rattle.node_hits.specs.Hits.{LinkValue, ReleaseHitValue, better, is_open, link_of, link_url, rank_of}
use Rattle.std.specs.List.Sorted.{IsNonDecreasingBy, IsPartitionPoint}
use Rattle.node_hits.specs.Ranks.{rank_limit}
use Rattle.feed_names.specs.ReleaseName.{Name}
use Rattle.node_hits.specs.Looks.{FoundValue}
use Rattle.node_hits.specs.Tallies.{TallyValue, first_within, shown_limit, text_limit, text_size}

-- the hits that are shown, and how many more and with how many bytes may be
pub record ShownValue : Type 0 where
  pub hits : List ReleaseHitValue
  pub places : ℕ
  pub bytes : ℕ

-- with one hit more, if there is room for it; otherwise no more are shown
abbrev pub with_shown : ShownValue → ReleaseHitValue → ShownValue
with_shown shown found =
    if nat_lt 0 shown.places && nat_lt 0 (shown.bytes - text_size found)
    then record { hits = shown.hits ++ found ∷ []; places = shown.places - 1; bytes = shown.bytes - text_size found }
    else record { hits = shown.hits; places = 0; bytes = shown.bytes }

-- a rank is above that of a link, if there is one
abbrev pub is_above : ℕ → Option LinkValue → Bool
is_above rank None = true
is_above rank (Some link) = nat_lt link.rank rank

-- with the link of one hit more
abbrev pub with_link : Option LinkValue → ReleaseHitValue → Option LinkValue
with_link link found = better link (link_of found)

-- the best link of all hits and that of the open ones, and whether one is open
pub record LinksValue : Type 0 where
  pub all : Option LinkValue
  pub open_ones : Option LinkValue
  pub has_open : Bool

abbrev pub no_links : LinksValue
no_links = record { all = None; open_ones = None; has_open = false }

-- with those of one hit more
abbrev pub with_links : LinksValue → ReleaseHitValue → LinksValue
with_links links found = record {
  all = with_link links.all found;
  open_ones = if is_open found then with_link links.open_ones found else links.open_ones;
  has_open = links.has_open || is_open found;
}

-- none ranks below a later one
abbrev pub IsRanked : List ReleaseHitValue → Type 0
IsRanked hits = IsNonDecreasingBy (λ found. rank_limit - rank_of found) hits

-- the hits before this place do not rank below a rank, and those from it on do
abbrev pub IsPlaceOf : ℕ → List ReleaseHitValue → ℕ → Type 0
IsPlaceOf rank hits place = IsPartitionPoint (λ found. rank ≤ rank_of found) (λ found. rank_of found < rank) hits place

-- hits without those at the end that rank below a rank
abbrev pub skip_below : ℕ → List ReleaseHitValue → List ReleaseHitValue
skip_below rank [] = []
skip_below rank (found ∷ more) = if nat_lt (rank_of found) rank then skip_below rank more else found ∷ more

abbrev pub kept_above : ℕ → List ReleaseHitValue → List ReleaseHitValue
kept_above rank hits = reverse (skip_below rank (reverse hits))

-- the hits of the highest ranks with one hit more: behind the last one that does not rank below it
abbrev pub with_top : List ReleaseHitValue → ReleaseHitValue → List ReleaseHitValue
with_top top found = take shown_limit (insert top (length (kept_above (rank_of found) top)) found)

-- a tally that is being made: whether all hits of the releases so far are counted, which releases may have more, how many hits
-- were found, and what is known of them
pub record RunningValue : Type 0 where
  pub is_whole : Bool
  pub partial : List Name
  pub count : ℕ
  pub shown : ShownValue
  pub top : List ReleaseHitValue
  pub links : LinksValue

-- before the first release
abbrev pub no_hits : RunningValue
no_hits = record {
  is_whole = true;
  partial = [];
  count = 0;
  shown = record { hits = []; places = shown_limit; bytes = text_limit };
  top = [];
  links = no_links;
}

-- one hit more
abbrev pub with_hit : RunningValue → ReleaseHitValue → RunningValue
with_hit running found = record {
  is_whole = running.is_whole;
  partial = running.partial;
  count = running.count + 1;
  shown = with_shown running.shown found;
  top = with_top running.top found;
  links = with_links running.links found;
}

abbrev pub with_hits : RunningValue → List ReleaseHitValue → RunningValue
with_hits running hits = fold with_hit running hits

-- the end of a release, by whether all its hits are counted
abbrev pub with_end : RunningValue → Name → Bool → RunningValue
with_end running name is_whole = record {
  is_whole = running.is_whole && is_whole;
  partial = running.partial ++ (if is_whole then [] else name ∷ []);
  count = running.count;
  shown = running.shown;
  top = running.top;
  links = running.links;
}

-- one release more
abbrev pub with_release : RunningValue → FoundValue → RunningValue
with_release running found = with_end (with_hits running found.hits) found.name found.is_whole

-- all the releases of a list, in order
abbrev pub with_releases : RunningValue → List FoundValue → RunningValue
with_releases running founds = fold with_release running founds

-- the tally of the releases so far
abbrev pub tally_from : RunningValue → TallyValue
tally_from running = record {
  count = running.count;
  is_whole = running.is_whole;
  partial = running.partial;
  shown = running.shown.hits;
  top = first_within shown_limit text_limit running.top;
  best = option_map link_url running.links.all;
  best_open = option_map link_url running.links.open_ones;
  has_open = running.links.has_open;
}
