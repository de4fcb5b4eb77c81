use Rattle.std.specs.Prelude.{◌≡◌}
use Rattle.feed_model.specs.History.{History}
use Rattle.feed_model.specs.Content.{IsContent, within}
use Rattle.feed_releases.specs.ReleaseValue.{content_of}
use Rattle.feed_releases.specs.Actives.{actives_of, AreKnown, AreReported}
use Rattle.feed_releases.proofs.ActivesReported.{of_both}
use Rattle.feed_releases.proofs.ByPackage.{reported}
use Rattle.feed_releases.proofs.feed.Feed.actives.Goals as goal

pub returns-clause-reported : goal.returns-clause-reported
returns-clause-reported g c = of_both c.actives_of.result (λ actives. actives.items ≡ actives_of c.args.self.now.releases.items)
    (λ actives. (h : History) → IsContent (within c.args.self.now.most (content_of c.args.self.now.releases.items)) h → AreReported h actives.items) (AreKnown c.args.self.now.releases.items)
    (λ actives is known h content. rw is (reported c.args.self.now.releases.items h content known))
    (rw c.deref.ensures.value at c.actives_of.ensures.value) (rw c.deref.ensures.value at c.actives_of.ensures.known)
