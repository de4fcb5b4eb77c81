use Rattle.std.proofs.Common.{◌≡◌, ◌++◌, map, drop}
use Rattle.feed_releases.specs.ReleaseValue.{content_of}
use Rattle.feed_releases.specs.Statuses.{status_of}
use Rattle.feed_releases.proofs.statuses.statuses_of.Given as goal

abbrev pub invariant-loop-release : goal.invariant-loop-release
invariant-loop-release l = l.statuses.items ++ map status_of (content_of (drop l.release-index l.releases)) ≡ map status_of (content_of l.releases)
