-- The first line of a request, and a URL without its query.
use Rattle.std.specs.Prelude.{ℕ, ◌==◌, ◌||◌, not, Bool, List, [], ◌++◌, take, drop, Option, Some, None}
use Rattle.std.specs.List.{position}
use Rattle.node_monitoring.specs.declared.request_line.RequestLine.{RequestLine}

-- CR or LF
abbrev pub is_line_end : ℕ → Bool
is_line_end b = (b == 13) || (b == 10)

-- the bytes before a place, or all of them
abbrev pub to_place : List ℕ → Option ℕ → List ℕ
to_place bytes (Some place) = take place bytes
to_place bytes None = bytes

-- the bytes from a place on, or none
abbrev pub from_place : List ℕ → Option ℕ → List ℕ
from_place bytes (Some place) = drop place bytes
from_place bytes None = []

-- the bytes without the ends of lines at their front (RFC 9112, section 2.2)
abbrev pub from_line : List ℕ → List ℕ
from_line bytes = from_place bytes (position (λ b. not (is_line_end b)) bytes)

-- the first line that is not empty, without its end
abbrev pub first_line : List ℕ → List ℕ
first_line bytes = to_place (from_line bytes) (position is_line_end (from_line bytes))

-- the line that the log shows: its parts, with the gaps between them
abbrev pub shown_text : RequestLine → List ℕ
shown_text line = line.method.now ++ (line.gap.now ++ (line.target.now ++ (line.gap.now ++ line.version.now)))

-- a URL without its query and its fragment (RFC 3986, section 3)
abbrev pub page_of : List ℕ → List ℕ
page_of url = to_place url (position (λ b. (b == 63) || (b == 35)) url)
