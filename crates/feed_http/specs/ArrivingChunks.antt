-- A chunked body while its bytes arrive (RFC 9112, section 7.1): what has been passed of it, and what a step finds.
use Rattle.std.specs.Prelude.{◌≡◌, ◌≤◌, ◌<◌, ◌+◌, ℕ, Bool, true, false, List, [], ◌++◌, length, take, All, ⊤}
use Rattle.httparse.specs.Ascii.{crlf_bytes}
use Rattle.httparse.specs.Grammar.{ChunkLine, print_chunk_line, chunk_size, Field, LineEnd, print_section}
use Rattle.feed_http_heads.specs.declared.http_fault.HttpFault.{HttpFault}
use Rattle.feed_http_heads.specs.declared.http_fault.HttpFault.TheVariants.{Read, Write, Short, Memory, Shelf}
use Rattle.feed_http_heads.specs.Limits.{head_limit}
use Rattle.feed_http.specs.declared.fetching.chunk_parts.Line.{Line}
use Rattle.feed_http.specs.declared.fetching.chunk_parts.Line.TheVariants as lines
use Rattle.feed_http.specs.declared.fetching.chunk_parts.DataEnd.{DataEnd}
use Rattle.feed_http.specs.declared.fetching.chunk_parts.DataEnd.TheVariants as ends
use Rattle.feed_http.specs.declared.fetching.chunk_parts.Trailers.{Trailers}
use Rattle.feed_http.specs.declared.fetching.chunk_parts.Trailers.TheVariants as trailers
use Rattle.feed_http.specs.declared.fetching.chunk_machine.Next.{Next}
use Rattle.feed_http.specs.declared.fetching.chunk_machine.Next.TheVariants as next
use Rattle.feed_http.specs.declared.fetching.step.Step.{Step}
use Rattle.feed_http.specs.declared.fetching.step.Step.TheVariants as steps
use Rattle.feed_http.specs.declared.fetching.chunk_machine.ChunkMachine.{ChunkMachine}
use Rattle.feed_http.specs.Chunks.{Chunk, IsChunk, IsLine, print_chunks, bytes_of, IsTrailers, IsNotChunked, IsLineBefore}
use Rattle.feed_http.specs.Chunks.{IsUnfinishedLine, NeverBeginsWithLine, IsUnfinishedTrailers, NeverBeginsWithTrailers, IsUnfinishedEnd, NeverBeginsWithEnd}

-- the line at the front of the text
abbrev pub IsLineFound : List ℕ → Line → Type 0
IsLineFound text (lines.Complete count size) = (line : ChunkLine) × (rest : List ℕ) × IsLineBefore text line rest × (count ≡ length (print_chunk_line line)) × (size ≡ chunk_size line)
IsLineFound text lines.Unfinished = IsUnfinishedLine text
IsLineFound text lines.Invalid = NeverBeginsWithLine text

-- CR LF at the front of the text; or a part of it; or something else
abbrev pub IsEndFound : List ℕ → DataEnd → Type 0
IsEndFound text ends.Complete = (2 ≤ length text) × (take 2 text ≡ crlf_bytes)
IsEndFound text ends.Unfinished = IsUnfinishedEnd text
IsEndFound text ends.Invalid = NeverBeginsWithEnd text

-- the trailer section at the front of the text
abbrev pub AreTrailersFound : List ℕ → Trailers → Type 0
AreTrailersFound text (trailers.Complete count) =
    (fields : List Field) × (end : LineEnd) × (rest : List ℕ) × IsTrailers fields end × (text ≡ print_section fields end ++ rest) × (count ≡ length (print_section fields end))
AreTrailersFound text trailers.Unfinished = IsUnfinishedTrailers text
AreTrailersFound text trailers.Invalid = NeverBeginsWithTrailers text

-- the text is complete chunks and a front of what follows them; the body is their bytes and a part of the next chunk's
pub record IsPassed (IsFront : List ℕ → List ℕ → Type 0) (text body : List ℕ) : Type 0 where
  pub chunks : List Chunk
  pub front : List ℕ
  pub part : List ℕ
  pub valid : All IsChunk chunks
  pub text_is : text ≡ print_chunks chunks ++ front
  pub body_is : body ≡ bytes_of chunks ++ part
  pub is : IsFront front part

-- the front is a line, and the bytes of its chunk but the last `left`
pub record IsInside (left : ℕ) (front part : List ℕ) : Type 0 where
  pub line : ChunkLine
  pub valid : IsLine line
  pub some : 0 < chunk_size line
  pub size : length part + left ≡ chunk_size line
  pub front_is : front ≡ print_chunk_line line ++ part

-- the front is the line of the last chunk
pub record IsBehindLast (front part : List ℕ) : Type 0 where
  pub last : ChunkLine
  pub valid : IsLine last
  pub size : chunk_size last ≡ 0
  pub front_is : front ≡ print_chunk_line last
  pub part_is : part ≡ []

-- the front is the line of the last chunk and the trailer section
pub record IsBehindTrailers (front part : List ℕ) : Type 0 where
  pub last : ChunkLine
  pub valid : IsLine last
  pub size : chunk_size last ≡ 0
  pub fields : List Field
  pub end : LineEnd
  pub trailers : IsTrailers fields end
  pub front_is : front ≡ print_chunk_line last ++ print_section fields end
  pub part_is : part ≡ []

-- the front, by what is to follow it
abbrev pub IsFrontOf : Next → List ℕ → List ℕ → Type 0
IsFrontOf next.Line front part = (front ≡ []) × (part ≡ [])
IsFrontOf (next.Data left) front part = IsInside left front part
IsFrontOf next.Trailers front part = IsBehindLast front part
IsFrontOf next.Nothing front part = IsBehindTrailers front part

-- the text is a chunked body with these bytes, and nothing more
abbrev pub IsWholeChunked : List ℕ → List ℕ → Type 0
IsWholeChunked text body = IsPassed IsBehindTrailers text body

-- how many bytes of the body are announced and have not arrived
abbrev pub left_of : Next → ℕ
left_of (next.Data left) = left
left_of _ = 0

-- the last line comes only after enough bytes
abbrev pub IsEnough : Next → ℕ → ℕ → Type 0
IsEnough next.Trailers least announced = least ≤ announced
IsEnough next.Nothing least announced = least ≤ announced
IsEnough _ least announced = ⊤

-- this text has been passed, and these bytes of the body; the lines have announced this many, which are not too many
pub record IsPassedTo (least most : ℕ) (following : Next) (announced : ℕ) (text body : List ℕ) : Type 0 where
  pub passed : IsPassed (IsFrontOf following) text body
  pub counted : announced ≡ length body + left_of following
  pub fits : announced ≤ most
  pub enough : IsEnough following least announced

-- the same of a machine: it has passed this text, and passed on these bytes
abbrev pub HasPassed : ChunkMachine → List ℕ → List ℕ → Type 0
HasPassed machine text body = IsPassedTo machine.bounds.least machine.bounds.most machine.next machine.announced text body

-- a fault that bytes show: none of a reader, a writer, a shelf or an allocation, and not that bytes are missing
abbrev pub IsShown : HttpFault → Type 0
IsShown Read = ⊥
IsShown Write = ⊥
IsShown Short = ⊥
IsShown Memory = ⊥
IsShown Shelf = ⊥
IsShown _ = ⊤

-- the faults of taking bytes at hand: those, or memory ran out
abbrev pub IsTakingFault : HttpFault → Type 0
IsTakingFault Memory = ⊤
IsTakingFault fault = IsShown fault

-- a step passes no more bytes than there are, and some; its faults are those that bytes show
abbrev pub IsWithin : Step → ℕ → Type 0
IsWithin (steps.Skip count) size = (0 < count) × (count ≤ size)
IsWithin (steps.Body count) size = (0 < count) × (count ≤ size)
IsWithin steps.Wait size = size < head_limit
IsWithin (steps.Fault fault) size = IsShown fault
IsWithin steps.Done size = ⊤

-- behind this text and this body, with these bytes at hand, a step passes some, and memory may run out only for bytes of
-- a chunk that fits; or it needs more, without which the body breaks off; or the body is complete with what was passed;
-- or it has a fault, whatever follows
abbrev pub IsStep : ChunkMachine → List ℕ → List ℕ → List ℕ → Step → Type 0
IsStep new text body bytes (steps.Skip count) = HasPassed new (text ++ take count bytes) body
IsStep new text body bytes (steps.Body count) =
    HasPassed new (text ++ take count bytes) (body ++ take count bytes) × ((more : List ℕ) → IsNotChunked new.bounds.least new.bounds.most Memory (text ++ (bytes ++ more)))
IsStep new text body bytes steps.Wait = HasPassed new text body × IsNotChunked new.bounds.least new.bounds.most Short (text ++ bytes)
IsStep new text body bytes steps.Done =
    HasPassed new text body × IsWholeChunked text body × (new.bounds.least ≤ length body) × (length body ≤ new.bounds.most)
IsStep new text body bytes (steps.Fault fault) = (more : List ℕ) → IsNotChunked new.bounds.least new.bounds.most fault (text ++ (bytes ++ more))

-- fewer bytes are kept than a section may have, unless the body is complete
abbrev pub IsKept : Bool → ℕ → Type 0
IsKept true count = ⊤
IsKept false count = count < head_limit
