use Rattle.std.proofs.Common.{◌+◌}
use Rattle.feed_answer.specs.Places.{listed}
use Rattle.node_hits.proofs.Added.{each_asked, release_added}
use Rattle.node_hits.proofs.tally.Tally.add_release.Goals as goal

pub look_at_each-requires-clause-asked : goal.look_at_each-requires-clause-asked
look_at_each-requires-clause-asked c =
    let release = c.args.release.now in
    each_asked release.site.now release.name.now c.args.search.now.query c.query.result.now release.holdings.now.rows (c.args.shares.rows + 1) c.args.shares.rows
    c.as_slice-places.result.now (listed c.in_ok-found.found) c.front-looked.result.now c.query.ensures c.as_slice-places.ensures c.in_ok-found.ensures c.front-looked.ensures
