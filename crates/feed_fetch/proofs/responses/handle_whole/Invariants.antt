use Rattle.std.proofs.Common.{◌≡◌, ◌≤◌, ◌-◌, IfErr}
use Rattle.feed_releases.specs.Feeds.{most_of, recorded}
use Rattle.feed_fetch.specs.Answers.{HasCause}
use Rattle.feed_fetch.specs.declared.stop.Stop.TheVariants.{Print}
use Rattle.std.specs.Prelude.{None}
use Rattle.feed_fetch.proofs.Owed.{IsUnderWay}
use Rattle.feed_fetch.proofs.responses.handle_whole.Given as goal

abbrev pub invariant-pieces : goal.invariant-pieces
invariant-pieces g l = record {
  within : l.first ≤ l.total;
  passed : IsUnderWay l.name l.bytes l.first (recorded l.fn.feed) (recorded l.feed);
  room : most_of l.feed ≡ most_of l.fn.feed;
  printed : IfErr l.taken (λ stop. stop ≡ Print);
  caused : IfErr l.taken (λ stop. HasCause (g.O.Observe.has_failed l.out) None stop);
}

abbrev pub decreases-pieces : goal.decreases-pieces
decreases-pieces g l = l.total - l.first
