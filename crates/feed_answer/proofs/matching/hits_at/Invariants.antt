use Rattle.std.proofs.Common.{◌≡◌, ◌++◌, map, drop}
use Rattle.std.specs.List.{filter_map}
use Rattle.feed_answer.specs.HitValue.{hit_of}
use Rattle.feed_answer.specs.Places.{hit_at}
use Rattle.feed_answer.proofs.matching.hits_at.Given as goal

-- the hits so far, and those at the places that are left, are the hits at all
abbrev pub invariant-loop-place : goal.invariant-loop-place
invariant-loop-place l =
    map hit_of l.hits.items ++ filter_map (hit_at l.query l.rows) (drop l.place-index l.places) ≡ filter_map (hit_at l.query l.rows) l.places
