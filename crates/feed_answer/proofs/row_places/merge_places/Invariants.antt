use Rattle.std.proofs.Common.{◌≡◌, take}
use Rattle.std.specs.List.{flat_map}
use Rattle.feed_kbart.specs.Places.{places_having}
use Rattle.feed_answer.specs.QueryValue.{asked}
use Rattle.feed_answer.proofs.row_places.merge_places.Given as goal

-- the places of the identifiers so far
abbrev pub invariant-loop-place : goal.invariant-loop-place
invariant-loop-place l = l.places.items ≡ flat_map (λ one. places_having one l.holdings.rows) (take l.place (asked l.query))
