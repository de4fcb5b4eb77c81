use Rattle.feed_releases.proofs.Finding.{reports_none}
use Rattle.feed_releases.proofs.Answered.{reported_for}
use Rattle.feed_releases.proofs.feed.Feed.active.Goals as goal

pub returns-in-Some : goal.returns-in-Some
returns-in-Some g c h is =
    let found = rw c.deref.ensures.value at c.in-Some.ensures.found in
    let active = c.active_of-in-Some.ensures in
    rw active.value (reported_for c.args.self.now.releases.items h c.args.«package».now c.in-Some.at c.index.result.now is found.0 found.1 c.index.ensures active.known)

pub returns-in-None : goal.returns-in-None
returns-in-None g c h is = reports_none c.args.self.now.releases.items h c.args.«package».now is (rw c.deref.ensures.value at c.in-None.ensures.none)
