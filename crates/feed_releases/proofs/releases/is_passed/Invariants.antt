use Rattle.std.proofs.Common.{◌<◌, ℕ, get_or}
use Rattle.feed_releases.specs.ReleaseValue.{ReleaseValue, IsActiveAfter}
use Rattle.feed_releases.proofs.releases.is_passed.Given as goal

abbrev pub invariant-loop-release : goal.invariant-loop-release
invariant-loop-release l = (k : ℕ) (d : ReleaseValue) → k < l.release-index → IsActiveAfter l.name (get_or l.releases k d) → ⊥
