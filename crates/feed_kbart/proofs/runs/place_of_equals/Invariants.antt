use Rattle.std.proofs.Common.{◌≤◌, ◌-◌, length}
use Rattle.feed_kbart.proofs.runs.place_of_equals.Given as goal

-- a run comes after the place, if there are two
abbrev pub invariant-loop-place : goal.invariant-loop-place
invariant-loop-place l = l.place ≤ length l.waiting - 1

abbrev pub decreases-loop-place : goal.decreases-loop-place
decreases-loop-place l = l.place
