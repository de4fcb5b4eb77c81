use Rattle.std.proofs.Common.{◌≡◌, ◌∙◌, string_bytes}
use Rattle.std.proofs.lemmas.Result.{IfOk-weaker}
use Rattle.feed_openurl.specs.Shown.{shown}
use Rattle.feed_openurl.proofs.Shows.{shown_of_bytes, shown_of_text}
use Rattle.feed_openurl.proofs.shown.shown_text.Goals as goal

pub returns-in-Ok : goal.returns-in-Ok
returns-in-Ok c = IfOk-weaker c.show_text.result _ (λ text. string_bytes text ≡ shown c.args.value.now)
    (λ text is. is ∙ shown_of_text c.args.value.now c.in-Ok.text.now c.in-Ok.ensures.cases.0 c.in-Ok.ensures.cases.1) c.show_text.ensures

pub returns-in-Err : goal.returns-in-Err
returns-in-Err c = IfOk-weaker c.show_bytes.result _ (λ text. string_bytes text ≡ shown c.args.value.now)
    (λ text is. is ∙ shown_of_bytes c.args.value.now c.in-Err.ensures.cases.0) c.show_bytes.ensures
