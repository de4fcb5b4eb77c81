-- Laws over both ends: the server serves what a node requests, and the node reads back what the server sends.
use Rattle.std.specs.Prelude.{◌≡◌, ◌≤◌, ◌<◌, ◌+◌, ◌-◌, ◌^◌, ℕ, List, length, min, slice_range, IsTrue, Some, Result, Ok, Err, ⊤}
use Rattle.httparse.specs.Grammar.{RequestHead}
use Rattle.feed_names.specs.ReleaseName.{Name, IsName, text_of}
use Rattle.feed_http_heads.specs.Limits.{head_limit, field_limit}
use Rattle.feed_limits.specs.Limits.{piece_limit}
use Rattle.feed_http.specs.RequestTexts.{is_host, get_text, head_request_text}
use Rattle.feed_http_heads.specs.RequestHeads.{BeginsWithHead}
use Rattle.feed_http.specs.Requests.{IsNamedBy}
use Rattle.feed_http.specs.Shelves.{Files}
use Rattle.feed_http_heads.specs.declared.http_fault.HttpFault.{HttpFault}
use Rattle.feed_http_heads.specs.declared.http_fault.HttpFault.TheVariants.{Read, Memory}
use Rattle.feed_http.specs.declared.serving.response_head.ServerHead.TheVariants.{Part, Whole}
use Rattle.feed_http.specs.declared.fetching.got.Method.TheVariants.{Get, Head}
use Rattle.feed_http.specs.declared.fetching.got.Got.{Got}
use Rattle.feed_http.specs.declared.fetching.got.Got.TheVariants.{Piece, Size}
use Rattle.feed_http.specs.ServerResponses.{with_body, head_alone, bytes_of_response, server_response}
use Rattle.feed_http.specs.Got.{IsResultOf}

-- this is the result, unless the reader failed or memory ran out
abbrev pub IsGiven : Got → Result Got HttpFault → Type 0
IsGiven wanted (Ok given) = given ≡ wanted
IsGiven wanted (Err Read) = ⊤
IsGiven wanted (Err Memory) = ⊤
IsGiven wanted (Err _) = ⊥

-- a GET whose response is a part of a file reads the piece with its first place, the file's length and the bytes
abbrev pub PartReadsBack : Type 0
PartReadsBack = (first last size : ℕ) (body : List ℕ) (result : Result Got HttpFault)
    → first ≤ last → last < size → size < 2 ^ 64 → last - first + 1 ≤ piece_limit → length body ≡ last - first + 1
    → IsResultOf Get (bytes_of_response (with_body (Part first last size) body)) result
    → IsGiven (Piece first (Some size) body) result

-- a HEAD whose response has the fields of a complete file reads its length
abbrev pub SizeReadsBack : Type 0
SizeReadsBack = (size : ℕ) (result : Result Got HttpFault) → size < 2 ^ 64
    → IsResultOf Head (bytes_of_response (head_alone (Whole size))) result → IsGiven (Size size) result

-- a GET from a server with this file reads a slice of it, if the file has the first place. The request text begins with
-- a head that names the release, and the response served to it is read as the piece
abbrev pub FetchGivesSlice : Type 0
FetchGivesSlice = (files : Files) (host : List ℕ) (name : Name) (file : List ℕ) (first last : ℕ)
    → IsTrue (is_host host) → IsName (text_of name) name → files name ≡ Some file
    → first ≤ last → last < 2 ^ 64 → first < length file → length file < 2 ^ 64 → min last (length file - 1) - first + 1 ≤ piece_limit
    → (head : RequestHead) × BeginsWithHead head_limit field_limit (get_text host (text_of name) first last) head × IsNamedBy head.target (Some name)
    × ((result : Result Got HttpFault) → IsResultOf Get (bytes_of_response (server_response files head (Some name))) result
    → IsGiven (Piece first (Some (length file)) (slice_range file first (min last (length file - 1) + 1))) result)

-- a HEAD to that server reads the file's length
abbrev pub HeadGivesSize : Type 0
HeadGivesSize = (files : Files) (host : List ℕ) (name : Name) (file : List ℕ)
    → IsTrue (is_host host) → IsName (text_of name) name → files name ≡ Some file → length file < 2 ^ 64
    → (head : RequestHead) × BeginsWithHead head_limit field_limit (head_request_text host (text_of name)) head × IsNamedBy head.target (Some name)
    × ((result : Result Got HttpFault) → IsResultOf Head (bytes_of_response (server_response files head (Some name))) result → IsGiven (Size (length file)) result)
