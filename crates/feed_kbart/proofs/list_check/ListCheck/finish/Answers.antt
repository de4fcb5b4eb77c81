use Rattle.std.proofs.lemmas.Result.{err_from_is_err_and}
use Rattle.feed_kbart.specs.IndexedStores.{AreStoredAndIndexed}
use Rattle.feed_kbart.proofs.Readings.{fault_of_text, kept_of_text, read_of_held}
use Rattle.feed_kbart.proofs.list_check.ListCheck.finish.Goals as goal

pub returns-in_err-finish : goal.returns-in_err-finish
returns-in_err-finish c text was =
    let p = err_from_is_err_and c.from_residual.result c.from_residual.ensures.1 in
    rw (p.1, p.2) (fault_of_text text _ (rw c.in_err-finish.was at (c.finish.ensures.checked text was.checked)))

pub returns-in_err-finish-2 : goal.returns-in_err-finish-2
returns-in_err-finish-2 c text was =
    let p = err_from_is_err_and c.from_residual-in_err-finish-2.result c.from_residual-in_err-finish-2.ensures.1 in
    let valid = rw c.in_ok-finish.was at (c.finish.ensures.checked text was.checked) in
    rw (p.1, p.2) (rw c.in_err-finish-2.was at (kept_of_text AreStoredAndIndexed text c.finish-2.result valid (λ small. c.finish-2.ensures text small was.list)))

pub returns : goal.returns
returns c text was =
    let valid = rw c.in_ok-finish.was at (c.finish.ensures.checked text was.checked) in
    let kept = kept_of_text AreStoredAndIndexed text c.finish-2.result valid (λ small. c.finish-2.ensures text small was.list) in
    read_of_held text c.in_ok-finish-2.field-0 c.of.result (rw c.in_ok-finish-2.was at kept) c.of.ensures
