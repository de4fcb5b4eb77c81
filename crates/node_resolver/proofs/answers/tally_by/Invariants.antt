use Rattle.std.proofs.Common.{◌≡◌, drop}
use Rattle.node_hits.specs.Hits.{links_of}
use Rattle.node_hits.specs.Tallying.{no_hits, with_releases}
use Rattle.node_resolver.specs.Answers.{sited_by, sited_in, found_by}
use Rattle.node_resolver.proofs.answers.tally_by.Given as goal

abbrev pub invariant-loop-active : goal.invariant-loop-active
invariant-loop-active l =
    (l.links ≡ links_of l.context.site.library l.search)
    × (with_releases l.tally (found_by l.shares l.search (sited_by l.context.site.library l.context.actives.today (drop l.active-index l.context.actives.actives)))
    ≡ with_releases no_hits (found_by l.shares l.search (sited_in l.context)))
