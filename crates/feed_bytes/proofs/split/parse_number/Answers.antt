use Rattle.feed_bytes.proofs.Digits.{digits_utf8, number_parts, result_ok-parsed}
use Rattle.std.proofs.Common.{◌∙◌}
use Rattle.feed_bytes.proofs.split.parse_number.Goals as goal

pub returns-in_default : goal.returns-in_default
returns-in_default c = absurd (c.in_default.ensures.cases.0 (digits_utf8 c.args.digits.now (number_parts c.args.digits.now c.requires).1))

pub returns : goal.returns
returns c = c.ok.ensures.value ∙ result_ok-parsed c.args.digits.now c.parse.result c.requires (rw c.in-Ok.ensures.cases.0 at c.parse.ensures.value.0)
