use Rattle.std.proofs.Common.{List, ℕ, ◌≡◌}
use Rattle.feed_releases.specs.Feeds.{recorded}
use Rattle.feed_fetch.specs.declared.machine.Phase.TheVariants.{Stopped}
use Rattle.feed_fetch.specs.Effects.{IsExtension, IsFetchEvent, ServesFile, IsFetchable}
use Rattle.feed_fetch.proofs.Runs.{IsRun}
use Rattle.feed_fetch.proofs.fetch_loop.fetch_file.Given as goal

-- all events of the feed concern the release, and each round but the first leaves one request fewer
abbrev pub invariant-rounds : goal.invariant-rounds
invariant-rounds g l = record {
  running : l.fetch.phase ≡ Stopped → ⊥;
  extends : IsExtension (IsFetchEvent g.D.Dial.responses l.host l.name) (λ k. Unit {0}) (recorded l.fn.feed) (recorded l.feed);
  fills : (file : List ℕ) → ServesFile g.D.Dial.responses l.name file → IsFetchable file
      → IsRun l.name file l.fetch.piece l.fetch.phase l.counter (recorded l.fn.feed) (recorded l.feed);
}
