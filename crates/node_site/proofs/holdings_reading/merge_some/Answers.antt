use Rattle.node_site.proofs.HoldingsSteps.{run_more}
use Rattle.node_site.proofs.holdings_reading.merge_some.Goals as goal

pub merge_or_compare-requires-clause-runs : goal.merge_or_compare-requires-clause-runs
merge_or_compare-requires-clause-runs c =
    let text = c.args.text.now in
    let is = c.requires.merging.is_merge in
    rw c.in-Ok-push.ensures.items
    (run_more text c.args.merge c.args.runs.items c.run.result c.requires.merging (c.run.ensures.sorted text is) (c.run.ensures.same text is))
