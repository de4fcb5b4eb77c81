use Rattle.std.proofs.Common.{◌∙◌, arith}
use Rattle.feed_model.specs.Content.{within}
use Rattle.feed_model.proofs.Runs.{run_more}
use Rattle.feed_releases.specs.Events.{event_of}
use Rattle.feed_releases.specs.ReleaseValue.{content_of}
use Rattle.feed_releases.proofs.Failed.{answered_more}
use Rattle.feed_releases.proofs.feed.Feed.run.Goals as goal

pub loop-event-preserved : goal.loop-event-preserved
loop-event-preserved g c = record {
  stands = run_more event_of _ (within c.loop-event.self.most (content_of c.loop-event.self.releases.items))
      (within c.handle.new.self.most (content_of c.handle.new.self.releases.items))
      c.args.events.now c.loop-event.event-index c.event-item.result c.loop-event.answers.items c.push_reserved.new.self.items c.handle.result
      c.loop-event-test.true c.event-item.is c.push_reserved.ensures.items c.loop-event.invariant.stands c.handle.ensures.right;
  count = omega (arith, c.push_reserved.ensures.len, c.loop-event.invariant.count);
  room = omega (arith, c.push_reserved.ensures.capacity, c.loop-event.invariant.room);
  clean = λ clean. c.loop-event.invariant.clean (c.handle.ensures.clean clean);
  counted = omega (arith, c.handle.ensures.device.rises, c.loop-event.invariant.counted);
  unloaded = c.handle.ensures.unloaded ∙ c.loop-event.invariant.unloaded;
  device = answered_more c.loop-event.answers.items c.push_reserved.new.self.items c.handle.result _ (g.K.Keep.failed c.loop-event.self.keeper) (g.K.Keep.failed c.handle.new.self.keeper)
      c.push_reserved.ensures.items c.loop-event.invariant.counted c.handle.ensures.device.rises c.loop-event.invariant.device c.handle.ensures.device.failed;
}
