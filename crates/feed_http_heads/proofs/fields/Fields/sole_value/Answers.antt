use Rattle.std.proofs.Common.{ap, ◌∙◌, Some}
use Rattle.feed_http_heads.proofs.NamedFields.{only_value}
use Rattle.feed_http_heads.proofs.fields.Fields.sole_value.Goals as goal

pub returns-in-Some : goal.returns-in-Some
returns-in-Some c = λ fields are. ap (λ v. Some v) c.of.ensures ∙ only_value c.args.self.now.buffer.now c.args.name.now c.args.self.now.headers.now _ c.in-Some.ensures.sole fields are

pub returns-in-None : goal.returns-in-None
returns-in-None c = only_value c.args.self.now.buffer.now c.args.name.now c.args.self.now.headers.now _ c.in-None.ensures.sole
