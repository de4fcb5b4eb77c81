use Rattle.std.proofs.Common.{Some, sym, subst}
use Rattle.feed_model.specs.History.{Reports}
use Rattle.feed_releases.specs.ReleaseValue.{ReleaseValue}
use Rattle.feed_releases.proofs.Finding.{reports_at, reports_none}
use Rattle.feed_releases.proofs.feed.Feed.report.Goals as goal

pub returns-in-Some : goal.returns-in-Some
returns-in-Some g c h is =
    let rs = c.args.self.now.releases.items in
    let found = rw c.deref.ensures.value at c.in-Some.ensures.found in
    let d = c.index.result.now in
    rw c.name.ensures (subst (λ (r : ReleaseValue). Reports h c.args.«package».now (Some r.kept.name)) (sym c.index.ensures)
    (reports_at rs h c.args.«package».now c.in-Some.at d is found.0 (found.1 d)))

pub returns-in-None : goal.returns-in-None
returns-in-None g c h is = reports_none c.args.self.now.releases.items h c.args.«package».now is (rw c.deref.ensures.value at c.in-None.ensures.none)
