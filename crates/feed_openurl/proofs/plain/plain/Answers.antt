use Rattle.std.proofs.Common.{sym, ◌∙◌}
use Rattle.feed_openurl.proofs.Plains.{plain_of_bytes, plain_of_text}
use Rattle.feed_openurl.proofs.plain.plain.Goals as goal

pub returns-in_ok-plain_text-in-Ok : goal.returns-in_ok-plain_text-in-Ok
returns-in_ok-plain_text-in-Ok c =
    c.in_ok-plain_text-in-Ok.ensures
    ∙ plain_of_text c.args.value.now c.in-Ok.text.now (sym c.is_ascii.ensures ∙ c.if-is_ascii.false) c.in-Ok.ensures.cases.0 c.in-Ok.ensures.cases.1

pub returns-in_ok-plain_bytes-in-Err : goal.returns-in_ok-plain_bytes-in-Err
returns-in_ok-plain_bytes-in-Err c =
    c.in_ok-plain_bytes-in-Err.ensures
    ∙ plain_of_bytes c.args.value.now (sym c.is_ascii.ensures ∙ c.if-is_ascii.false) c.in-Err.ensures.cases.0
