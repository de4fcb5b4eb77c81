-- Properties of a request's head that do not depend on its target (RFC 9112, section 3; RFC 9110, section 9).
use Rattle.std.specs.Prelude.{◌==◌, ◌&&◌, Bool, codes, is_none}
use Rattle.std.specs.Str.{bytes_eq}
use Rattle.httparse.specs.Grammar.{RequestHead}
use Rattle.httparse.specs.Spans.{IsRequestWithin, IsRequestAt}
use Rattle.feed_http_heads.specs.Fields.{values_named, only}
use Rattle.feed_http_heads.specs.declared.request.Request.{Request}

-- a request of HTTP/1.1 does not have exactly one Host field
abbrev pub lacks_host : RequestHead → Bool
lacks_host head = (head.minor == 1) && is_none (only (values_named (codes "host") head.fields))

-- the method is HEAD
abbrev pub is_head : RequestHead → Bool
is_head head = bytes_eq head.method (codes "HEAD")

-- the method is GET
abbrev pub is_get : RequestHead → Bool
is_get head = bytes_eq head.method (codes "GET")

-- the parts of a parsed request are inside its buffer
abbrev pub IsInBuffer : Request → Type 0
IsInBuffer request = IsRequestWithin request.buffer.now request.headers.now request.spans

-- the parsed request has this head
abbrev pub HasHead : Request → RequestHead → Type 0
HasHead request head = IsRequestAt request.buffer.now request.headers.now request.spans head
