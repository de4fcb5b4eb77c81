-- Chunked bodies (RFC 9112, section 7.1): their structure, text and bytes, and the faults of a text that has no such
-- body.
use Rattle.std.specs.Prelude.{◌≡◌, ◌≤◌, ◌<◌, ◌-◌, ◌⊎◌, ℕ, zero, suc, List, ◌++◌, length, All}
use Rattle.std.specs.List.{flat_map}
use Rattle.httparse.specs.Ascii.{crlf_bytes}
use Rattle.httparse.specs.Grammar.{ChunkLine, IsChunkLine, HasNoChunkLine, MayBecomeChunkLine, print_chunk_line, chunk_size, Field, IsField, LineEnd, print_section, HasNoSection, MayBecomeSection}
use Rattle.feed_http_heads.specs.Limits.{head_limit, field_limit}
use Rattle.feed_http.specs.Limits.{chunk_line_limit}
use Rattle.feed_http_heads.specs.declared.http_fault.HttpFault.{HttpFault}
use Rattle.feed_http_heads.specs.declared.http_fault.HttpFault.TheVariants.{Short, Coding, Length, BodyTooLong, Memory}

-- a chunk line within the limit
pub record IsLine (line : ChunkLine) : Type 0 where
  pub valid : IsChunkLine line
  pub short : length (print_chunk_line line) ≤ chunk_line_limit

-- a chunk: its line and its bytes
pub record Chunk : Type 0 where
  pub line : ChunkLine
  pub bytes : List ℕ

-- the text of a chunk
abbrev pub print_chunk : Chunk → List ℕ
print_chunk chunk = print_chunk_line chunk.line ++ (chunk.bytes ++ crlf_bytes)

-- the line states the number of bytes that follow, which is not 0
pub record IsChunk (chunk : Chunk) : Type 0 where
  pub line : IsLine chunk.line
  pub size : length chunk.bytes ≡ chunk_size chunk.line
  pub some : 0 < length chunk.bytes

-- the text of consecutive chunks
abbrev pub print_chunks : List Chunk → List ℕ
print_chunks chunks = flat_map print_chunk chunks

-- their bytes
abbrev pub bytes_of : List Chunk → List ℕ
bytes_of chunks = flat_map (λ chunk. chunk.bytes) chunks

-- a trailer section within the limits of fields and bytes
pub record IsTrailers (fields : List Field) (last : LineEnd) : Type 0 where
  pub valid : All IsField fields
  pub few : length fields ≤ field_limit
  pub short : length (print_section fields last) ≤ head_limit

-- the text begins with this chunked body: the chunks, a line of size 0, and a trailer section
pub record IsChunked (text : List ℕ) (chunks : List Chunk) : Type 0 where
  pub valid : All IsChunk chunks
  pub last : ChunkLine
  pub last_valid : IsLine last
  pub size : chunk_size last ≡ 0
  pub fields : List Field
  pub end : LineEnd
  pub trailers : IsTrailers fields end
  pub rest : List ℕ
  pub text_is : text ≡ print_chunks chunks ++ (print_chunk_line last ++ (print_section fields end ++ rest))

-- whatever follows, the text does not begin with a line within the limit
abbrev pub NeverBeginsWithLine : List ℕ → Type 0
NeverBeginsWithLine text = (more : List ℕ) (line : ChunkLine) (rest : List ℕ) → IsLine line → text ++ more ≡ print_chunk_line line ++ rest → ⊥

-- the text does not begin with a complete line, but may become one
pub record IsUnfinishedLine (text : List ℕ) : Type 0 where
  pub short : length text < chunk_line_limit
  pub not_whole : HasNoChunkLine text
  pub may_become : MayBecomeChunkLine text

-- whatever follows, the text does not begin with a trailer section
abbrev pub NeverBeginsWithTrailers : List ℕ → Type 0
NeverBeginsWithTrailers text = (more : List ℕ) (fields : List Field) (end : LineEnd) (rest : List ℕ) → IsTrailers fields end → text ++ more ≡ print_section fields end ++ rest → ⊥

-- the text does not begin with a complete section, but may become one
pub record IsUnfinishedTrailers (text : List ℕ) : Type 0 where
  pub short : length text < head_limit
  pub not_whole : HasNoSection text
  pub may_become : MayBecomeSection text

-- whatever follows, the text does not begin with CR LF
abbrev pub NeverBeginsWithEnd : List ℕ → Type 0
NeverBeginsWithEnd text = (more rest : List ℕ) → text ++ more ≡ crlf_bytes ++ rest → ⊥

-- the text is none or one byte of CR LF, and may still become it
pub record IsUnfinishedEnd (text : List ℕ) : Type 0 where
  pub short : length text < 2
  pub more : List ℕ
  pub may_become : text ++ more ≡ crlf_bytes

-- the text has fewer bytes than a chunk of this size, or all of them and what may still become CR LF
abbrev pub IsUnfinishedChunk : ℕ → List ℕ → Type 0
IsUnfinishedChunk size text = (length text < size) ⊎ ((bytes : List ℕ) × (rest : List ℕ) × (length bytes ≡ size) × (text ≡ bytes ++ rest) × IsUnfinishedEnd rest)

-- after this many bytes of a chunk, the text does not continue with CR LF
abbrev pub IsBadChunk : ℕ → List ℕ → Type 0
IsBadChunk size text = (bytes : List ℕ) × (rest : List ℕ) × (length bytes ≡ size) × (text ≡ bytes ++ rest) × NeverBeginsWithEnd rest

-- the text after a line of this size is incomplete: the trailers after the last line, the bytes and CR LF after any
-- other
abbrev pub IsUnfinishedBehind : ℕ → List ℕ → Type 0
IsUnfinishedBehind zero text = IsUnfinishedTrailers text
IsUnfinishedBehind (suc size) text = IsUnfinishedChunk (suc size) text

-- the text after a line of this size is invalid
abbrev pub IsBadBehind : ℕ → List ℕ → Type 0
IsBadBehind zero text = NeverBeginsWithTrailers text
IsBadBehind (suc size) text = IsBadChunk (suc size) text

-- the text is this line and the rest
pub record IsLineBefore (text : List ℕ) (line : ChunkLine) (rest : List ℕ) : Type 0 where
  pub valid : IsLine line
  pub text_is : text ≡ print_chunk_line line ++ rest

-- the text begins with a line, and the statement holds for its size and for what follows it
abbrev pub BeginsWithLine : (ℕ → List ℕ → Type 0) → List ℕ → Type 0
BeginsWithLine Holds text = (line : ChunkLine) × (rest : List ℕ) × IsLineBefore text line rest × Holds (chunk_size line) rest

-- the size of a line is acceptable: 0 if no byte is missing, or any other size that there is room for
abbrev pub IsFitting : ℕ → ℕ → ℕ → Type 0
IsFitting missing room zero = missing ≡ 0
IsFitting missing room (suc size) = suc size ≤ room

-- why neither a chunk nor the end follows, with this many bytes missing and room for this many: the first fault met.
-- If the size of a line is not acceptable, nothing after it is read and no memory is allocated
abbrev pub IsWhyNoChunk : ℕ → ℕ → HttpFault → List ℕ → Type 0
IsWhyNoChunk missing room Short text =
    IsUnfinishedLine text ⊎ BeginsWithLine (λ size rest. IsFitting missing room size × IsUnfinishedBehind size rest) text
IsWhyNoChunk missing room Coding text =
    NeverBeginsWithLine text ⊎ BeginsWithLine (λ size rest. IsFitting missing room size × IsBadBehind size rest) text
IsWhyNoChunk missing room Memory text = BeginsWithLine (λ size rest. (0 < size) × (size ≤ room)) text
IsWhyNoChunk missing room BodyTooLong text = BeginsWithLine (λ size rest. room < size) text
IsWhyNoChunk missing room Length text = BeginsWithLine (λ size rest. (size ≡ 0) × (0 < missing)) text
IsWhyNoChunk missing room _ text = ⊥

-- the text begins with chunks of at most `most` bytes together, followed by neither a chunk nor the end of a body of at
-- least `least` bytes
pub record IsNotChunked (least most : ℕ) (fault : HttpFault) (text : List ℕ) : Type 0 where
  pub chunks : List Chunk
  pub rest : List ℕ
  pub valid : All IsChunk chunks
  pub fits : length (bytes_of chunks) ≤ most
  pub text_is : text ≡ print_chunks chunks ++ rest
  pub why : IsWhyNoChunk (least - length (bytes_of chunks)) (most - length (bytes_of chunks)) fault rest

-- the text begins with a chunked body with these bytes
abbrev pub IsBodyChunked : List ℕ → List ℕ → Type 0
IsBodyChunked body text = (chunks : List Chunk) × IsChunked text chunks × (body ≡ bytes_of chunks)
