use Rattle.std.proofs.Common.{◌≡◌, ◌<◌, ◌≤◌, ℕ, false, get_or, length}
use Rattle.feed_releases.specs.Actives.{ActiveValue, is_package_before}
use Rattle.feed_releases.proofs.actives.place_for.Given as goal

-- the releases from here on come no earlier
abbrev pub invariant-loop-at : goal.invariant-loop-at
invariant-loop-at l = record {
  within : l.at ≤ length l.actives;
  late : (k : ℕ) (d : ActiveValue) → l.at ≤ k → k < length l.actives → is_package_before (get_or l.actives k d) l.active ≡ false;
}

abbrev pub decreases-loop-at : goal.decreases-loop-at
decreases-loop-at l = l.at
