use Rattle.feed_releases.specs.ReleaseValue.{record_with}
use Rattle.feed_releases.proofs.ReadAhead.{more_unread}
use Rattle.feed_releases.proofs.release.Release.has_more.Goals as goal

pub returns : goal.returns
returns c =
    let i = c.self.inside in
    rw (← c.self.view_is) (more_unread (record_with i.name i.size i.standing i.kept.parts) c.args.running.now c.has_more.result c.self.invariant.within c.has_more.ensures)
