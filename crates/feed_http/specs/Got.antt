-- The result of a response (RFC 9110, sections 15.3.7 and 15.5.17; RFC 9112, section 6.3).
use Rattle.std.specs.Prelude.{◌≡◌, ◌<◌, ◌≤◌, ◌⊎◌, ℕ, List, length, take, Result, Ok, Err, ⊤}
use Rattle.httparse.specs.Grammar.{ResponseHead}
use Rattle.feed_http_heads.specs.declared.http_fault.HttpFault.{HttpFault}
use Rattle.feed_http_heads.specs.declared.http_fault.HttpFault.TheVariants.{Read, Write, Short, Length, BodyTooLong, Memory, Shelf}
use Rattle.feed_http.specs.declared.fetching.got.Method.{Method}
use Rattle.feed_http.specs.declared.fetching.got.Got.{Got}
use Rattle.feed_http.specs.declared.fetching.got.Got.TheVariants as got
use Rattle.feed_http.specs.declared.fetching.validation.Framing.{Framing}
use Rattle.feed_http.specs.declared.fetching.validation.Framing.TheVariants.{Chunked, Sized, ToEnd}
use Rattle.feed_http.specs.declared.fetching.validation.Announcement.{Announcement}
use Rattle.feed_http.specs.declared.fetching.validation.Announcement.TheVariants.{Missing, Unsatisfied, Size, Part, Whole}
use Rattle.feed_http_heads.specs.Limits.{head_limit, field_limit}
use Rattle.feed_limits.specs.Limits.{file_limit}
use Rattle.feed_http_heads.specs.ResponseHeads.{BeginsWithHeads, IsNoResponse}
use Rattle.feed_http.specs.Announcements.{announcement_of}
use Rattle.feed_http.specs.Chunks.{IsBodyChunked, IsNotChunked}

-- the body at the front of the text, by its framing, or what is wrong with it; a body without a stated length has from
-- `least` to `most` bytes
abbrev pub IsBody : Framing → ℕ → ℕ → List ℕ → Result (List ℕ) HttpFault → Type 0
IsBody framing least most text (Err Read) = ⊤
IsBody (Sized size) least most text (Ok body) = (size ≤ length text) × (body ≡ take size text)
IsBody (Sized size) least most text (Err Short) = length text < size
IsBody (Sized size) least most text (Err Memory) = ⊤
IsBody (Sized size) least most text (Err _) = ⊥
IsBody ToEnd least most text (Ok body) = (least ≤ length text) × (length text ≤ most) × (body ≡ text)
IsBody ToEnd least most text (Err Short) = length text < least
IsBody ToEnd least most text (Err BodyTooLong) = most < length text
IsBody ToEnd least most text (Err Memory) = ⊤
IsBody ToEnd least most text (Err _) = ⊥
IsBody Chunked least most text (Ok body) = (least ≤ length body) × (length body ≤ most) × IsBodyChunked body text
IsBody Chunked least most text (Err fault) = IsNotChunked least most fault text

-- the body of a part, which has exactly this many bytes; a longer one has the wrong length
abbrev pub IsPartBody : Framing → ℕ → List ℕ → Result (List ℕ) HttpFault → Type 0
IsPartBody framing count text (Ok body) = IsBody framing count count text (Ok body)
IsPartBody framing count text (Err Length) = IsBody framing count count text (Err Length) ⊎ IsBody framing count count text (Err BodyTooLong)
IsPartBody framing count text (Err BodyTooLong) = ⊥
IsPartBody framing count text (Err fault) = IsBody framing count count text (Err fault)

-- the result of a body, or its fault
abbrev pub IsGivenBy : (Result (List ℕ) HttpFault → Type 0) → (List ℕ → Got) → Result Got HttpFault → Type 0
IsGivenBy IsRead gives (Ok given) = (body : List ℕ) × (given ≡ gives body) × IsRead (Ok body)
IsGivenBy IsRead gives (Err fault) = IsRead (Err fault)

-- the result of a validated head and the bytes after it
abbrev pub IsGot : Announcement → List ℕ → Result Got HttpFault → Type 0
IsGot Missing text result = result ≡ Ok got.Missing
IsGot (Unsatisfied total) text result = result ≡ Ok (got.Unsatisfied total)
IsGot (Size length) text result = result ≡ Ok (got.Size length)
IsGot (Part first total count framing) text result = IsGivenBy (IsPartBody framing count text) (got.Piece first total) result
IsGot (Whole framing) text result = IsGivenBy (IsBody framing 0 file_limit text) got.Whole result

-- the first fault of the head, or the result that it announces
abbrev pub IsAnnounced : Result Announcement HttpFault → List ℕ → Result Got HttpFault → Type 0
IsAnnounced (Ok announcement) text result = IsGot announcement text result
IsAnnounced (Err fault) text result = result ≡ Err fault

-- the text begins with heads, and the last one determines the result
pub record IsResponseGot (method : Method) (text : List ℕ) (result : Result Got HttpFault) : Type 0 where
  pub interim : List ResponseHead
  pub head : ResponseHead
  pub rest : List ℕ
  pub begins : BeginsWithHeads head_limit field_limit text interim head rest
  pub is : IsAnnounced (announcement_of method head) rest result

-- the text does not begin with heads within the limits
abbrev pub IsHeadFailure : List ℕ → Result Got HttpFault → Type 0
IsHeadFailure text (Ok given) = ⊥
IsHeadFailure text (Err fault) = IsNoResponse head_limit field_limit fault text

-- the result of the response at the front of the text, for a request with this method
abbrev pub IsResultOf : Method → List ℕ → Result Got HttpFault → Type 0
IsResultOf method text result = IsResponseGot method text result ⊎ IsHeadFailure text result

-- the faults of reading a response
abbrev pub IsReadingFault : HttpFault → Type 0
IsReadingFault Write = ⊥
IsReadingFault Shelf = ⊥
IsReadingFault _ = ⊤
