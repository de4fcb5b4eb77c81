use Rattle.std.proofs.Common.{◌≡◌, [], sym, ap, ◌∙◌, false}
use Rattle.std.proofs.lemmas.List.{take_all}
use Rattle.feed_http_heads.specs.Fields.{has_any, spans_named}
use Rattle.feed_http_heads.proofs.NamedFields.{some_value, some_span}
use Rattle.feed_http_heads.proofs.fields.Fields.has_field.Goals as goal

pub returns-then-is_named : goal.returns-then-is_named
returns-then-is_named c = some_value c.args.self.now.buffer.now c.args.name.now c.args.self.now.headers.now _
    (some_span c.args.self.now.buffer.now c.args.name.now c.args.self.now.headers.now c.loop-header.header-index _ c.loop-header-test.true (sym c.is_named.ensures ∙ c.if-is_named.true))

pub returns : goal.returns
returns c =
    let none : spans_named c.args.self.now.buffer.now c.args.name.now c.args.self.now.headers.now ≡ [] =
    ap (spans_named c.args.self.now.buffer.now c.args.name.now) (sym (take_all c.loop-header.header-index c.args.self.now.headers.now c.loop-header-test.false)) ∙ c.loop-header.invariant in
    some_value c.args.self.now.buffer.now c.args.name.now c.args.self.now.headers.now false (sym (ap has_any none))
