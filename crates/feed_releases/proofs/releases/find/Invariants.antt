use Rattle.std.proofs.Common.{◌≡◌, ◌<◌, ℕ, false, get_or}
use Rattle.feed_names.specs.ReleaseName.{name_eq}
use Rattle.feed_releases.specs.ReleaseValue.{ReleaseValue}
use Rattle.feed_releases.proofs.releases.find.Given as goal

abbrev pub invariant-loop-at : goal.invariant-loop-at
invariant-loop-at l = (k : ℕ) (d : ReleaseValue) → k < l.at → name_eq (get_or l.releases k d).kept.name l.name ≡ false
