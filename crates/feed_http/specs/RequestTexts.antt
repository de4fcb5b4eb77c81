-- The texts of requests (RFC 9112, section 3).
use Rattle.std.specs.Prelude.{ℕ, List, [], ◌∷◌, ◌++◌, length, Bool, ◌&&◌, ◌||◌, ◌==◌, nat_lt, nat_le, codes}
use Rattle.std.specs.List.{list_all}
use Rattle.std.specs.Char.{is_ascii_alphanumeric}
use Rattle.httparse.specs.Ascii.{crlf_bytes}
use Rattle.feed_range.specs.RangeAsk.{ask_text}
use Rattle.feed_http.specs.Limits.{host_limit}
use Rattle.feed_http.specs.Responses.{line, line_then, head_of}

-- a letter, a digit, `.`, `-`, `:`, `[` or `]`
abbrev pub is_host_byte : ℕ → Bool
is_host_byte b = is_ascii_alphanumeric b || (b == 46) || (b == 45) || (b == 58) || (b == 91) || (b == 93)

-- one or more such bytes, within the limit
abbrev pub is_host : List ℕ → Bool
is_host host = nat_lt 0 (length host) && nat_le (length host) host_limit && list_all is_host_byte host

-- the request line and the Host field, and then the rest
abbrev pub start_then : List ℕ → List ℕ → List ℕ → List ℕ → List ℕ
start_then method host name rest =
    line_then (method ∷ codes " /" ∷ name ∷ codes " HTTP/1.1" ∷ [])
    (crlf_bytes ++ line_then (codes "Host: " ∷ host ∷ []) (crlf_bytes ++ rest))

-- the request line and the Host field
abbrev pub start_text : List ℕ → List ℕ → List ℕ → List ℕ
start_text method host name = start_then method host name []

-- the last field lines of each request
abbrev pub last_lines : List (List (List ℕ))
last_lines = line (codes "Accept-Encoding: identity") ∷ line (codes "Connection: close") ∷ []

-- the text of a GET for the places from first to last
abbrev pub get_text : List ℕ → List ℕ → ℕ → ℕ → List ℕ
get_text host name first last =
    start_then (codes "GET") host name (head_of ((codes "Range: " ∷ ask_text first last ∷ []) ∷ last_lines))

-- the text of a HEAD
abbrev pub head_request_text : List ℕ → List ℕ → List ℕ
head_request_text host name = start_then (codes "HEAD") host name (head_of last_lines)
