use Rattle.feed_releases.specs.ReleaseValue.{record_with}
use Rattle.feed_releases.proofs.ReadAhead.{if_both, read_less}
use Rattle.feed_releases.proofs.release.Release.read_on.Goals as goal

pub returns-clause-less : goal.returns-clause-less
returns-clause-less c =
    let i = c.self.inside in
    rw (← c.self.view_is) (if_both c.read_on.result _ _ _ c.read_on.ensures.some c.read_on.ensures.none (λ further some none more.
    read_less (record_with i.name i.size i.standing i.kept.parts) c.args.running further c.self.invariant.within some none more))
