use Rattle.std.proofs.Common.{sym, ◌∙◌}
use Rattle.std.proofs.lemmas.Result.{on_ok_weaker}
use Rattle.node_titles.proofs.Folds.{folded_bytes, folded_text}
use Rattle.node_titles.proofs.folded.fold_case.Goals as goal

pub returns-in-Ok : goal.returns-in-Ok
returns-in-Ok c = on_ok_weaker c.put_case_folded.result
    (λ is. is ∙ folded_text c.args.text.now c.in-Ok.text.now (sym c.is_ascii.ensures ∙ c.if-is_ascii.false) c.in-Ok.ensures.cases.0 c.in-Ok.ensures.cases.1) c.put_case_folded.ensures

pub returns-in-Err : goal.returns-in-Err
returns-in-Err c = on_ok_weaker c.put_lowercase-in-Err.result
    (λ is. is ∙ folded_bytes c.args.text.now (sym c.is_ascii.ensures ∙ c.if-is_ascii.false) c.in-Err.ensures.cases.0) c.put_lowercase-in-Err.ensures
