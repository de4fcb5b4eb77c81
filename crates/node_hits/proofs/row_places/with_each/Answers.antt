use Rattle.std.proofs.Common.{◌≤◌, ◌∙◌, [], ap, arith, length}
use Rattle.std.proofs.lemmas.List.{take_all}
use Rattle.feed_answer.specs.QueryValue.{asked}
use Rattle.node_hits.specs.Merging.{with_each}
use Rattle.node_hits.proofs.Merged.{each_next}
use Rattle.node_hits.proofs.row_places.with_each.Goals as goal

pub loop-place-preserved : goal.loop-place-preserved
loop-place-preserved c =
    each_next c.args.limit c.args.holdings.now.rows (asked c.args.query.now) c.loop-place.place c.loop-place.all.items c.in_ok-all.all.items
    c.in_ok-all.ensures c.loop-place.invariant

pub returns : goal.returns
returns c =
    let past : length (asked c.args.query.now) ≤ c.loop-place.place = omega (arith, c.count-place-end.ensures, c.loop-place-test.false) in
    c.loop-place.invariant ∙ ap (with_each c.args.limit c.args.holdings.now.rows []) (take_all c.loop-place.place (asked c.args.query.now) past)
