use Rattle.std.proofs.Common.{sym, subst}
use Rattle.feed_releases.specs.Reason.{HasReason}
use Rattle.feed_releases.specs.ReleaseValue.{content_of}
use Rattle.feed_releases.proofs.Growth.{found_here}
use Rattle.feed_releases.proofs.Reason.{reason_of_record}
use Rattle.feed_releases.proofs.feed.Feed.reason.Goals as goal

pub returns-in-Some : goal.returns-in-Some
returns-in-Some g c h is =
    let rs = c.args.self.now.releases.items in
    let n = c.args.name.now in
    let place = rw c.deref.ensures.value at c.in-Some.ensures.found in
    let found = found_here rs n c.in-Some.at c.index.result.now place c.index.ensures in
    subst (HasReason h n) (sym c.reason.ensures) (reason_of_record (content_of rs) h n c.index.result.now.kept is found)
