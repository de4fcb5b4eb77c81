use Rattle.std.proofs.Common.{◌<◌, ℕ, get_or}
use Rattle.feed_releases.specs.ReleaseValue.{ReleaseValue, IsActiveOf}
use Rattle.feed_releases.proofs.releases.active_of.Given as goal

abbrev pub invariant-loop-at : goal.invariant-loop-at
invariant-loop-at l = (k : ℕ) (d : ReleaseValue) → k < l.at → IsActiveOf l.«package» (get_or l.releases k d) → ⊥
