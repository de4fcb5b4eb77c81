use Rattle.std.proofs.Common.{◌≡◌, ◌≤◌, ◌+◌, ◌-◌, drop, length}
use Rattle.node_hits.specs.Tallies.{first_within, shown_limit, text_limit}
use Rattle.node_hits.proofs.shown.count_within.Given as goal

-- the hits so far are within the limits, and so many of the others are
abbrev pub invariant-loop-place : goal.invariant-loop-place
invariant-loop-place l =
    (l.bytes ≤ text_limit) × (length (first_within shown_limit text_limit l.hits) ≡ l.place + length (first_within (shown_limit - l.place) l.bytes (drop l.place l.hits)))
