-- The server's response to a request, and how much of it is written.
use Rattle.std.specs.Prelude.{◌≡◌, ℕ, ◌+◌, ◌⊎◌, List, [], ◌++◌, length, take, slice_range, if◌then◌else◌, Option, None, Some, Result, Ok, Err, ⊤}
use Rattle.std.specs.Option.{option_and_then, option_map_or}
use Rattle.std.specs.Io.KnownBytes.{Keeps, Appends}
use Rattle.httparse.specs.Grammar.{RequestHead}
use Rattle.feed_names.specs.ReleaseName.{Name}
use Rattle.feed_range.specs.declared.range_ask.RangeAsk.{RangeAsk}
use Rattle.feed_range.specs.declared.range_ask.RangeAsk.TheVariants as ask
use Rattle.feed_http_heads.specs.declared.http_fault.HttpFault.{HttpFault}
use Rattle.feed_http_heads.specs.declared.http_fault.HttpFault.TheVariants.{Read, Write, Short, Memory, Shelf}
use Rattle.feed_http.specs.declared.serving.response_head.ServerHead.{ServerHead}
use Rattle.feed_http.specs.declared.serving.response_head.ServerHead.TheVariants.{Whole, Part, BadRequest, NotFound, Unsatisfied, NotImplemented}
use Rattle.feed_http.specs.Shelves.{Files}
use Rattle.feed_http_heads.specs.Requests.{lacks_host, is_head}
use Rattle.feed_http.specs.Requests.{is_unsupported, ask_for}
use Rattle.feed_http_heads.specs.RequestHeads.{NeverBeginsWithHead, IsUnfinished}
use Rattle.feed_http.specs.Responses.{status_of, head_text}

-- a response: its head and its body
pub record ServerResponse : Type 0 where
  pub head : ServerHead
  pub body : List ℕ

-- a response with this body
abbrev pub with_body : ServerHead → List ℕ → ServerResponse
with_body head body = record { head = head; body = body }

-- a response without a body
abbrev pub head_alone : ServerHead → ServerResponse
head_alone head = with_body head []

-- the bytes of a response
abbrev pub bytes_of_response : ServerResponse → List ℕ
bytes_of_response reply = head_text reply.head ++ reply.body

-- the response to a GET, by the part of the file that it asks for
abbrev pub part_response : RangeAsk → List ℕ → ServerResponse
part_response ask.Whole file = with_body (Whole (length file)) file
part_response (ask.Part first last) file = with_body (Part first last (length file)) (slice_range file first (last + 1))
part_response ask.Unsatisfied file = head_alone (Unsatisfied (length file))

-- the response to a request for this file, or for one that the shelf does not have
abbrev pub file_response : RequestHead → Option (List ℕ) → ServerResponse
file_response head None = head_alone NotFound
file_response head (Some file) =
    if is_head head then head_alone (Whole (length file))
    else part_response (ask_for head (length file)) file

-- the response to a request with this head, whose target names this release, if any
abbrev pub server_response : Files → RequestHead → Option Name → ServerResponse
server_response files head named =
    if lacks_host head then head_alone BadRequest
    else (if is_unsupported head then head_alone NotImplemented
    else file_response head (option_and_then files named))

-- the response that does not depend on the files: the request is rejected, or does not name a release
abbrev pub response_without_file : RequestHead → Option Name → Option ServerResponse
response_without_file head named =
    if lacks_host head then Some (head_alone BadRequest)
    else (if is_unsupported head then Some (head_alone NotImplemented)
    else option_map_or (λ name. None) named (Some (head_alone NotFound)))

-- the shelf failed: nothing was written, or the head and this many bytes of the body
abbrev pub IsCutShort : ServerResponse → Option (List ℕ) → Option (List ℕ) → Type 0
IsCutShort reply old new =
    Keeps old new ⊎ ((sent : ℕ) × Appends old new (head_text reply.head ++ take sent reply.body))

-- what was written if the exchange ended with this fault
abbrev pub IsFaultOf : ServerResponse → HttpFault → Option (List ℕ) → Option (List ℕ) → Type 0
IsFaultOf reply Read old new = Keeps old new
IsFaultOf reply Write old new = ⊤
IsFaultOf reply Memory old new = IsCutShort reply old new
IsFaultOf reply Shelf old new = IsCutShort reply old new
IsFaultOf reply _ old new = ⊥

-- the response was written and its status returned, or the exchange failed
abbrev pub IsOutcomeOf : ServerResponse → Result ℕ HttpFault → Option (List ℕ) → Option (List ℕ) → Type 0
IsOutcomeOf reply (Ok status) old new = (status ≡ status_of reply.head) × Appends old new (bytes_of_response reply)
IsOutcomeOf reply (Err fault) old new = IsFaultOf reply fault old new

-- the outcome for a text that does not begin with a head within the limits: it is rejected if it never can, or it is
-- incomplete
abbrev pub IsRefusalOf : ℕ → ℕ → List ℕ → Result ℕ HttpFault → Option (List ℕ) → Option (List ℕ) → Type 0
IsRefusalOf bytes fields text (Ok status) old new =
    NeverBeginsWithHead bytes fields text × (status ≡ 400) × Appends old new (bytes_of_response (head_alone BadRequest))
IsRefusalOf bytes fields text (Err Short) old new = IsUnfinished bytes text × Keeps old new
IsRefusalOf bytes fields text (Err Read) old new = Keeps old new
IsRefusalOf bytes fields text (Err Write) old new = ⊤
IsRefusalOf bytes fields text (Err _) old new = ⊥

-- the range of a file was sent, or as much of it as the shelf returned
abbrev pub IsSending : List ℕ → Result (Unit {0}) HttpFault → Option (List ℕ) → Option (List ℕ) → Type 0
IsSending body (Ok done) old new = Appends old new body
IsSending body (Err Write) old new = ⊤
IsSending body (Err Memory) old new = (sent : ℕ) × Appends old new (take sent body)
IsSending body (Err Shelf) old new = (sent : ℕ) × Appends old new (take sent body)
IsSending body (Err _) old new = ⊥

-- the faults of a response
abbrev pub IsResponseFault : HttpFault → Type 0
IsResponseFault Write = ⊤
IsResponseFault Memory = ⊤
IsResponseFault Shelf = ⊤
IsResponseFault _ = ⊥

-- the faults of an exchange on the server's end
abbrev pub IsServingFault : HttpFault → Type 0
IsServingFault Read = ⊤
IsServingFault Write = ⊤
IsServingFault Short = ⊤
IsServingFault Memory = ⊤
IsServingFault Shelf = ⊤
IsServingFault _ = ⊥
