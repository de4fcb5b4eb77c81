use Rattle.std.proofs.Common.{◌≡◌, take, []}
use Rattle.feed_http_heads.specs.Fields.{spans_named}
use Rattle.feed_http_heads.proofs.fields.Fields.has_field.Given as goal

abbrev pub invariant-loop-header : goal.invariant-loop-header
invariant-loop-header l = spans_named l.self.buffer.now l.name (take l.header-index l.self.headers.now) ≡ []
