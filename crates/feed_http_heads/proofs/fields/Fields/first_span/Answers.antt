use Rattle.std.proofs.Common.{sym, ◌∙◌}
use Rattle.feed_http_heads.proofs.NamedFields.{first_found}
use Rattle.feed_http_heads.proofs.fields.Fields.first_span.Goals as goal

pub returns-then-is_named-clause-first : goal.returns-then-is_named-clause-first
returns-then-is_named-clause-first c = first_found c.args.self.now.buffer.now c.args.name.now c.args.self.now.headers.now c.loop-header.header-index _ c.loop-header-test.true
    (sym c.is_named.ensures ∙ c.if-is_named.true) c.loop-header.invariant
