use Rattle.std.proofs.Common.{◌∙◌, sym}
use Rattle.std.proofs.lemmas.Result.{err_from_is_err_and}
use Rattle.feed_kbart.specs.IndexedStores.{AreStoredAndIndexed}
use Rattle.feed_kbart.proofs.Readings.{fault_of_text, kept_of_text, read_of_held}
use Rattle.feed_kbart.proofs.Steps.{if_some}
use Rattle.feed_kbart.proofs.file.read_parts.Goals as goal

pub returns : goal.returns
returns g c =
    if_some (g.R.Read.remaining c.args.check) _ (λ text is.
    let whole = rw is at c.in_ok-check_text.ensures in
    let kept = kept_of_text AreStoredAndIndexed text c.read_list.result whole (c.read_list.ensures text (sym c.requires ∙ is)) in
    read_of_held text c.in_ok-kept.kept c.of.result (rw c.in_ok-kept.was at kept) c.of.ensures)

pub returns-in_err-kept : goal.returns-in_err-kept
returns-in_err-kept g c =
    let p = err_from_is_err_and c.from_residual-in_err-kept.result c.from_residual-in_err-kept.ensures.1 in
    if_some (g.R.Read.remaining c.args.check) _ (λ text is.
    let whole = rw is at c.in_ok-check_text.ensures in
    let kept = kept_of_text AreStoredAndIndexed text c.read_list.result whole (c.read_list.ensures text (sym c.requires ∙ is)) in
    rw (p.1, p.2) (rw c.in_err-kept.was at kept))

pub returns-in_err-check_text : goal.returns-in_err-check_text
returns-in_err-check_text g c =
    let p = err_from_is_err_and c.from_residual.result c.from_residual.ensures.1 in
    if_some (g.R.Read.remaining c.args.check) _ (λ text is.
    rw (p.1, p.2) (fault_of_text text _ (rw (is, c.in_err-check_text.was) at c.check_text.ensures)))
