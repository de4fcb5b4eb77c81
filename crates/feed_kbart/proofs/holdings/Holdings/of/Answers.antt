use Rattle.std.proofs.Common.{refl}
use Rattle.std.proofs.lemmas.Result.{err_from_is_err_and}
use Rattle.feed_kbart.proofs.Readings.{rows_of_store}
use Rattle.feed_kbart.proofs.holdings.Holdings.of.Goals as goal

pub invariant_of-result : goal.invariant_of-result
invariant_of-result c = c.in_ok-rows.ensures.1

pub returns : goal.returns
returns c held is = rw (c.in_ok-rows.ensures.0, rows_of_store held.rows c.args.kept.rows.store is.0.0, is.1) refl

pub returns-in_err-rows : goal.returns-in_err-rows
returns-in_err-rows c held is =
    let p = err_from_is_err_and c.from_residual.result c.from_residual.ensures.1 in
    let full = rw c.in_err-rows.was at c.finish.ensures in
    rw (p.1, p.2) (rw (rows_of_store held.rows c.args.kept.rows.store is.0.0) at full)
