-- The responses of the server: their status, the text of their heads, and their bodies.
use Rattle.std.specs.Prelude.{ℕ, ◌+◌, ◌-◌, ◌≤◌, ◌<◌, List, [], ◌∷◌, ◌++◌, codes, ⊤}
use Rattle.std.specs.Fmt.{decimal}
use Rattle.httparse.specs.Ascii.{crlf_bytes}
use Rattle.feed_http.specs.declared.serving.response_head.ServerHead.{ServerHead}
use Rattle.feed_http.specs.declared.serving.response_head.ServerHead.TheVariants.{Whole, Part, BadRequest, NotFound, Unsatisfied, NotImplemented}

-- the status code of a response
abbrev pub status_of : ServerHead → ℕ
status_of (Whole length) = 200
status_of (Part first last length) = 206
status_of BadRequest = 400
status_of NotFound = 404
status_of (Unsatisfied length) = 416
status_of NotImplemented = 501

-- the concatenated fragments of a line, and then the rest
abbrev pub line_then : List (List ℕ) → List ℕ → List ℕ
line_then [] rest = rest
line_then (piece ∷ pieces) rest = piece ++ line_then pieces rest

-- the lines, each ended by CR LF, and an empty line
abbrev pub head_of : List (List (List ℕ)) → List ℕ
head_of [] = crlf_bytes
head_of (line ∷ lines) = line_then line (crlf_bytes ++ head_of lines)

-- a line that is one text
abbrev pub line : List ℕ → List (List ℕ)
line text = text ∷ []

-- the lines of an error response with this status
abbrev pub refusal_lines : List ℕ → List (List (List ℕ))
refusal_lines status =
    (codes "HTTP/1.1 " ∷ status ∷ [])
    ∷ line (codes "Content-Length: 0")
    ∷ line (codes "Connection: close") ∷ []

-- the text of such a response
abbrev pub refusal_text : List ℕ → List ℕ
refusal_text status = head_of (refusal_lines status)

-- the lines of a response's head: the status line and the field lines
abbrev pub head_lines : ServerHead → List (List (List ℕ))
head_lines (Whole length) =
    line (codes "HTTP/1.1 200 OK")
    ∷ line (codes "Content-Type: application/octet-stream")
    ∷ line (codes "Accept-Ranges: bytes")
    ∷ (codes "Content-Length: " ∷ decimal length ∷ [])
    ∷ line (codes "Connection: close") ∷ []
head_lines (Part first last length) =
    line (codes "HTTP/1.1 206 Partial Content")
    ∷ line (codes "Content-Type: application/octet-stream")
    ∷ line (codes "Accept-Ranges: bytes")
    ∷ (codes "Content-Range: bytes " ∷ decimal first ∷ codes "-" ∷ decimal last ∷ codes "/" ∷ decimal length ∷ [])
    ∷ (codes "Content-Length: " ∷ decimal (last - first + 1) ∷ [])
    ∷ line (codes "Connection: close") ∷ []
head_lines BadRequest = refusal_lines (codes "400 Bad Request")
head_lines NotFound = refusal_lines (codes "404 Not Found")
head_lines (Unsatisfied length) =
    line (codes "HTTP/1.1 416 Range Not Satisfiable")
    ∷ line (codes "Accept-Ranges: bytes")
    ∷ (codes "Content-Range: bytes */" ∷ decimal length ∷ [])
    ∷ line (codes "Content-Length: 0")
    ∷ line (codes "Connection: close") ∷ []
head_lines NotImplemented = refusal_lines (codes "501 Not Implemented")

-- the text of a response's head
abbrev pub head_text : ServerHead → List ℕ
head_text head = head_of (head_lines head)

-- the range of a part is in order, and inside the file
abbrev pub IsPartInside : ServerHead → Type 0
IsPartInside (Part first last length) = (first ≤ last) × (last < length)
IsPartInside _ = ⊤
