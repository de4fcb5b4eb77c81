use Rattle.std.proofs.Common.{◌≡◌, ◌≤◌, Err, take, map, length, vec_len, vec_capacity}
use Rattle.std.specs.List.{Contains}
use Rattle.feed_model.specs.declared.reply.Refusal.TheVariants.{Device}
use Rattle.feed_model.specs.Content.{within}
use Rattle.feed_model.specs.Handles.{Runs}
use Rattle.feed_releases.specs.Events.{event_of}
use Rattle.feed_keep.specs.Cause.{HasFailedSince}
use Rattle.feed_releases.specs.ReleaseValue.{content_of}
use Rattle.feed_releases.proofs.feed.Feed.run.Given as goal

-- each answer is right after those before it, and there is room for the rest
abbrev pub invariant-loop-event : goal.invariant-loop-event
invariant-loop-event g l = record {
  stands : Runs (within l.fn.self.most (content_of l.fn.self.releases.items)) (map event_of (take l.event-index l.events)) l.answers.items (within l.self.most (content_of l.self.releases.items));
  count : vec_len l.answers ≡ l.event-index;
  room : length l.events ≤ vec_capacity l.answers;
  clean : g.K.Keep.clean l.self.keeper → g.K.Keep.clean l.fn.self.keeper;
  counted : g.K.Keep.failed l.fn.self.keeper ≤ g.K.Keep.failed l.self.keeper;
  unloaded : g.K.Keep.loads l.self.keeper ≡ g.K.Keep.loads l.fn.self.keeper;
  device : Contains l.answers.items (Err Device) → HasFailedSince (g.K.Keep.failed l.fn.self.keeper) (g.K.Keep.failed l.self.keeper);
}
