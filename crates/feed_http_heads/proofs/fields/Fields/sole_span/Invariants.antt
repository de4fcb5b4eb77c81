use Rattle.std.proofs.Common.{◌≡◌, take, length, IfSome}
use Rattle.std.specs.Option.{option_to_list}
use Rattle.httparse.specs.Spans.{IsWithin}
use Rattle.feed_http_heads.specs.Fields.{spans_named}
use Rattle.feed_http_heads.proofs.fields.Fields.sole_span.Given as goal

abbrev pub invariant-loop-header : goal.invariant-loop-header
invariant-loop-header l = (spans_named l.self.buffer.now l.name (take l.header-index l.self.headers.now) ≡ option_to_list l.found) × IfSome l.found (IsWithin (length l.self.buffer.now))
