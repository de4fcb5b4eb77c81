use Rattle.std.proofs.Common.{Ok, Err, refl}
use Rattle.feed_releases.specs.Feeds.{recorded}
use Rattle.feed_fetch.specs.declared.stop.Stop.TheVariants.{Request}
use Rattle.feed_fetch.proofs.Owed.{lost_steps}
use Rattle.feed_fetch.proofs.responses.report_loss.Goals as goal

pub returns-in-Ok-clause-owed : goal.returns-in-Ok-clause-owed
returns-in-Ok-clause-owed g c phase runs =
    lost_steps (recorded c.args.feed.now) (recorded c.handle_event.new.feed) c.args.name.now c.args.why c.in-Http.field-0 (Ok c.in-Ok.field-0) (Request c.args.why)
    phase c.in-Http.is refl c.in-Ok.ensures.right runs

pub returns-in-Err-clause-owed : goal.returns-in-Err-clause-owed
returns-in-Err-clause-owed g c phase runs =
    lost_steps (recorded c.args.feed.now) (recorded c.handle_event.new.feed) c.args.name.now c.args.why c.in-Http.field-0 (Err c.in-Err.stop) c.in-Err.stop
    phase c.in-Http.is refl c.in-Err.ensures.right runs
