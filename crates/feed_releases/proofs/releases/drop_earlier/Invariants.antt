use Rattle.std.proofs.Common.{◌-◌}
use Rattle.std.specs.Prelude.{vec_len}
use Rattle.feed_releases.proofs.Dropping.{AreDropped}
use Rattle.feed_releases.proofs.releases.drop_earlier.Given as goal

abbrev pub invariant-loop-at : goal.invariant-loop-at
invariant-loop-at l = AreDropped l.name l.initial.releases.items l.releases.items l.at

abbrev pub decreases-loop-at : goal.decreases-loop-at
decreases-loop-at l = vec_len l.releases - l.at
