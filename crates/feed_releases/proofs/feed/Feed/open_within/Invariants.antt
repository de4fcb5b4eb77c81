use Rattle.std.proofs.Common.{◌≡◌}
use Rattle.feed_releases.specs.Openings.{IsLoaded, opening_keeper, opening_most, unchecked}
use Rattle.feed_releases.proofs.feed.Feed.open_within.Given as goal

-- the keeper was loaded once, without a failure
abbrev pub invariant-loop-further : goal.invariant-loop-further
invariant-loop-further g l = record {
  loaded : IsLoaded g.K.Keep l.fn.keeper (opening_keeper l.opening);
  most : opening_most l.opening ≡ l.fn.most;
  counted : g.K.Keep.failed (opening_keeper l.opening) ≡ g.K.Keep.failed l.fn.keeper;
}

abbrev pub decreases-loop-further : goal.decreases-loop-further
decreases-loop-further g l = unchecked l.opening
