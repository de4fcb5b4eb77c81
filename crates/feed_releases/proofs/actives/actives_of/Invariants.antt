use Rattle.std.proofs.Common.{◌≡◌, ◌<◌, ℕ, drop, get_or}
use Rattle.std.specs.List.{filter_map}
use Rattle.feed_releases.specs.ReleaseValue.{ReleaseValue}
use Rattle.feed_releases.specs.Actives.{AreInOrder, active_of, actives_of, inserted, IsKnownRelease}
use Rattle.feed_releases.proofs.actives.actives_of.Given as goal

abbrev pub invariant-loop-release : goal.invariant-loop-release
invariant-loop-release l = AreInOrder l.actives.items × (inserted l.actives.items (filter_map active_of (drop l.release-index l.releases)) ≡ actives_of l.releases)
    × ((k : ℕ) (d : ReleaseValue) → k < l.release-index → IsKnownRelease (get_or l.releases k d))
