use Rattle.std.proofs.Common.{List, ap, ◌∙◌}
use Rattle.std.specs.List.{list_all}
use Rattle.feed_releases.specs.Actives.{ActiveValue}
use Rattle.feed_releases.specs.Feeds.{recorded}
use Rattle.node_service.specs.Wanted.{has_package}
use Rattle.node_service.proofs.WantedPackages.{each_or_lacks}
use Rattle.node_service.proofs.wanted.has_each.Goals as goal

pub returns : goal.returns
returns g c = λ h is.
    each_or_lacks (recorded c.args.feed.now) h c.in_ok-actives.field-0.items c.args.wanted.now c.have_each.result is (c.in_ok-actives.ensures.reported h is)
    (c.have_each.ensures ∙ ap (λ (actives : List ActiveValue). list_all (has_package actives) c.args.wanted.now) c.deref.ensures.value)
