use Rattle.std.proofs.Common.{◌∙◌}
use Rattle.std.proofs.lemmas.Result.{err_from_is_err_and}
use Rattle.feed_kbart.proofs.Readings.{fault_of_text, kept_of_text}
use Rattle.feed_kbart.proofs.Steps.{if_some}
use Rattle.feed_kbart.proofs.file.read_rows.Goals as goal

pub returns : goal.returns
returns g c =
    if_some (g.R.Read.remaining c.args.reader) _ (λ text is.
    let whole = rw (c.requires ∙ is) at c.in_ok-finish.ensures.checked in
    kept_of_text g.K.KeepRows.keeps text c.read_list-kept.result whole (c.read_list-kept.ensures text (c.new-text.ensures.left ∙ is)))

pub returns-in_err-finish : goal.returns-in_err-finish
returns-in_err-finish g c =
    let p = err_from_is_err_and c.from_residual.result c.from_residual.ensures.1 in
    if_some (g.R.Read.remaining c.args.reader) _ (λ text is.
    rw (p.1, p.2) (fault_of_text text _ (rw (c.requires ∙ is, c.in_err-finish.was) at c.finish.ensures.checked)))
