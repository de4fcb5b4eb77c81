-- Whether a request has what the response would send (RFC 9110, sections 8.8.3 and 13.1.2).
use Rattle.std.specs.Prelude.{ℕ, ◌||◌, if◌then◌else◌, Bool, false, List, codes, take, drop}
use Rattle.std.specs.List.{list_any}
use Rattle.std.specs.Option.{option_map_or}
use Rattle.std.specs.Str.{bytes_eq}
use Rattle.httparse.specs.Grammar.{RequestHead}
use Rattle.feed_bytes.specs.Parts.{parts_at}
use Rattle.feed_http_heads.specs.Fields.{values_named, only}
use Rattle.feed_bytes.specs.Trim.{trimmed}

-- an entity tag without the mark of a weak one
abbrev pub opaque_tag : List ℕ → List ℕ
opaque_tag element = if bytes_eq (take 2 element) (codes "W/") then drop 2 element else element

-- an element of a list is this tag, by the weak comparison
abbrev pub is_tag : List ℕ → List ℕ → Bool
is_tag tag element = bytes_eq (opaque_tag (trimmed element)) tag

-- one of the elements of a value is this tag; commas separate them, and a tag without a comma is not split
abbrev pub lists_tag : List ℕ → List ℕ → Bool
lists_tag tag value = list_any (is_tag tag) (parts_at 44 value)

-- a value names each tag, as `*`, or lists this one
abbrev pub names_tag : List ℕ → List ℕ → Bool
names_tag tag value = bytes_eq value (codes "*") || lists_tag tag value

-- the request's only If-None-Match field names the tag
abbrev pub has_tag : List ℕ → RequestHead → Bool
has_tag tag head = option_map_or (names_tag tag) (only (values_named (codes "if-none-match") head.fields)) false
