use Rattle.std.proofs.Common.{sym, ◌∙◌}
use Rattle.feed_http_heads.proofs.NamedFields.{several_spans}
use Rattle.feed_http_heads.proofs.fields.Fields.sole_span.Goals as goal

pub returns-then-is_some-clause-sole : goal.returns-then-is_some-clause-sole
returns-then-is_some-clause-sole c = several_spans c.args.self.now.buffer.now c.args.name.now c.args.self.now.headers.now c.loop-header.found c.loop-header.header-index _ c.loop-header-test.true
    (sym c.is_named.ensures ∙ c.if-is_named.true) c.loop-header.invariant.0 (sym c.if-is_some.true ∙ c.is_some.ensures)
