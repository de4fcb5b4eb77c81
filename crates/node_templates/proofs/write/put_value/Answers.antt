use Rattle.std.proofs.Common.{sym, ◌∙◌}
use Rattle.node_templates.proofs.PlainTexts.{escaped_plain}
use Rattle.node_templates.proofs.write.put_value.Goals as goal

pub returns-then-is_plain_text : goal.returns-then-is_plain_text
returns-then-is_plain_text c = rw (escaped_plain c.args.value.now (sym c.is_plain_text.ensures ∙ c.if-is_plain_text.true)) c.put.ensures
