-- The order of hits: by their ranks, and of equal ranks by their order in the answer.
use Rattle.std.specs.Prelude.{◌≡◌, ◌<◌, ◌⊎◌, ◌==◌, ℕ, zero, suc, true, List, [], ◌++◌, Option, Some, None, filter, slice_get}
use Rattle.node_site.specs.Hosts.{is_link}
use Rattle.node_hits.specs.Hits.{ReleaseHitValue, availability_rank, first_rank, grade_rank, link_text, place_rank, rank_of, text_rank}

-- the hit at this place, which may be linked to
pub record IsLinkAt (hits : List ReleaseHitValue) (place : ℕ) (found : ReleaseHitValue) : Type 0 where
  pub at : slice_get hits place ≡ Some found
  pub link : is_link (link_text found) ≡ true

-- the hit at the one place ranks above that at the other: by a higher rank, or by the same rank and an earlier place
abbrev pub RanksAbove : ℕ → ReleaseHitValue → ℕ → ReleaseHitValue → Type 0
RanksAbove place found other_place other =
    (rank_of other < rank_of found) ⊎ ((rank_of found ≡ rank_of other) × (place < other_place))

-- no hit that may be linked to ranks above the one with this URL, or no hit may be linked to
abbrev pub IsBestLink : List ReleaseHitValue → Option (List ℕ) → Type 0
IsBestLink hits None = (place : ℕ) (found : ReleaseHitValue) → ¬ (IsLinkAt hits place found)
IsBestLink hits (Some url) =
    (place : ℕ) × (best : ReleaseHitValue) × IsLinkAt hits place best × (url ≡ link_text best)
    × ((other_place : ℕ) (other : ReleaseHitValue) → IsLinkAt hits other_place other → ¬ (RanksAbove other_place other place best))

-- the hits of one rank, in their order
abbrev pub in_rank : ℕ → List ReleaseHitValue → List ReleaseHitValue
in_rank rank hits = filter (λ found. rank_of found == rank) hits

-- the hits below a rank: those of the highest rank first, and those of one rank in their order
unfoldable pub below_rank : ℕ → List ReleaseHitValue → List ReleaseHitValue
below_rank zero hits = []
below_rank (suc rank) hits = in_rank rank hits ++ below_rank rank hits

-- all ranks are below this
abbrev pub rank_limit : ℕ
rank_limit = 4718592

-- all hits in the order of their ranks
abbrev pub ranked : List ReleaseHitValue → List ReleaseHitValue
ranked hits = below_rank rank_limit hits

-- the one availability is better, or it is the same and the one grade is better, or that is the same too and the one text
-- is better, or all three are the same and the site lists the one package first
abbrev pub IsBetter : ReleaseHitValue → ReleaseHitValue → Type 0
IsBetter one other =
    (availability_rank other.availability < availability_rank one.availability)
    ⊎ ((availability_rank other.availability ≡ availability_rank one.availability) × (grade_rank other.hit.grade < grade_rank one.hit.grade))
    ⊎ ((availability_rank other.availability ≡ availability_rank one.availability) × (grade_rank other.hit.grade ≡ grade_rank one.hit.grade)
    × (text_rank other.hit.row < text_rank one.hit.row))
    ⊎ ((availability_rank other.availability ≡ availability_rank one.availability) × (grade_rank other.hit.grade ≡ grade_rank one.hit.grade)
    × (text_rank other.hit.row ≡ text_rank one.hit.row) × (place_rank other.place < place_rank one.place))

-- the one is a book that comes before its series and the other is not, or both are or neither is and the one is better
abbrev pub IsPreferred : ReleaseHitValue → ReleaseHitValue → Type 0
IsPreferred one other =
    (first_rank other.is_first < first_rank one.is_first)
    ⊎ ((first_rank other.is_first ≡ first_rank one.is_first) × IsBetter one other)
