-- The value of the last field of a name.
use Rattle.std.specs.Prelude.{ℕ, if◌then◌else◌, List}
use Rattle.httparse.specs.Spans.{span_bytes}
use Rattle.httparse.specs.declared.spans.HeaderSpan.{HeaderSpan}
use Rattle.feed_http_heads.specs.Fields.{is_named}

-- the value of a header of this name, or else the other value
abbrev pub value_or : List ℕ → List ℕ → HeaderSpan → List ℕ → List ℕ
value_or buffer name header value = if is_named buffer name header then span_bytes buffer header.value else value
