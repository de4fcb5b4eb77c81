use Rattle.std.proofs.Common.{◌≡◌, drop}
use Rattle.std.specs.Prelude.{◌&&◌}
use Rattle.node_hits.specs.Looks.{are_fitting, fitting, looks_at}
use Rattle.node_hits.specs.Tallying.{with_hits}
use Rattle.node_hits.proofs.tally.Tally.look_at_each.Given as goal

-- the hits at the places that are left, which fit into what is left, added to the tally so far, make the tally of all
abbrev pub invariant-loop-place : goal.invariant-loop-place
invariant-loop-place l =
    (l.links ≡ l.fn.links)
    × (with_hits l.self (fitting l.room.left (looks_at l.release.site.now l.release.today.now l.search l.release.name.now l.release.holdings.now.rows (drop l.place-index l.places)))
    ≡ with_hits l.fn.self (fitting l.texts (looks_at l.release.site.now l.release.today.now l.search l.release.name.now l.release.holdings.now.rows l.places)))
    × ((l.room.is_enough
    && are_fitting l.room.left (looks_at l.release.site.now l.release.today.now l.search l.release.name.now l.release.holdings.now.rows (drop l.place-index l.places)))
    ≡ are_fitting l.texts (looks_at l.release.site.now l.release.today.now l.search l.release.name.now l.release.holdings.now.rows l.places))
