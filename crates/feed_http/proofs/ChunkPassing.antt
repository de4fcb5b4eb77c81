-- The part of a chunked body that was passed, by one step after another.
use Rattle.std.proofs.Common.{◌≡◌, ◌≤◌, ◌<◌, ◌+◌, ◌-◌, ℕ, zero, suc, List, [], ◌∷◌, ◌++◌, length, take, refl, sym, ap, arith, ◌∙◌, append_assoc, subst, inl, inr}
use Rattle.std.proofs.lemmas.List.{append-nil, length-append, take_at, length-take-le}
use Rattle.std.proofs.lemmas.List.Elements.{All-push}
use Rattle.std.proofs.lemmas.Grind.{flat_map-append}
use Rattle.httparse.specs.Ascii.{crlf_bytes}
use Rattle.httparse.specs.Grammar.{ChunkLine, print_chunk_line, chunk_size, print_section}
use Rattle.feed_http_heads.specs.declared.http_fault.HttpFault.{HttpFault}
use Rattle.feed_http_heads.specs.declared.http_fault.HttpFault.TheVariants.{Short, Coding, Length, BodyTooLong, Memory}
use Rattle.feed_http.specs.declared.fetching.chunk_parts.Line.TheVariants as lines
use Rattle.feed_http.specs.declared.fetching.chunk_parts.Trailers.TheVariants as trailers
use Rattle.feed_http.specs.declared.fetching.chunk_machine.Next.TheVariants as next
use Rattle.feed_http.specs.Chunks.{Chunk, IsChunk, print_chunk, print_chunks, bytes_of, IsLineBefore, IsFitting, IsWhyNoChunk, IsNotChunked}
use Rattle.feed_http.specs.Chunks.{IsUnfinishedLine, NeverBeginsWithLine, IsUnfinishedTrailers, NeverBeginsWithTrailers, NeverBeginsWithEnd}
use Rattle.feed_http.specs.Chunks.{IsUnfinishedEnd, IsUnfinishedChunk, IsUnfinishedBehind, IsBadBehind, IsBadChunk}
use Rattle.feed_http.specs.ArrivingChunks.{IsLineFound, AreTrailersFound, IsPassedTo}
use Rattle.feed_http.proofs.ChunkParts.{line_bytes, section_bytes}

-- before the first line
pub at_start : (least most : ℕ) → IsPassedTo least most next.Line 0 [] []
at_start least most = record {
  passed = record { chunks = []; front = []; part = []; valid = λ i d below. absurd (omega (arith, below)); text_is = refl; body_is = refl; is = (refl, refl) };
  counted = refl;
  fits = omega arith;
  enough = tt;
}

-- more of the front
behind : (chunks : List Chunk) (text front more : List ℕ) → text ≡ print_chunks chunks ++ front → text ++ more ≡ print_chunks chunks ++ (front ++ more)
behind chunks text front more e = ap (λ t. t ++ more) e ∙ append_assoc (print_chunks chunks) front more

-- the line that was found
pub line_is : (bytes : List ℕ) (count size : ℕ) (found : IsLineFound bytes (lines.Complete count size)) → take count bytes ≡ print_chunk_line found.0
line_is bytes count size (line, rest, before, counted, sized) = ap (take count) before.text_is ∙ take_at (print_chunk_line line) rest count (sym counted)

pub line_within : (bytes : List ℕ) (count size : ℕ) → IsLineFound bytes (lines.Complete count size) → (0 < count) × (count ≤ length bytes)
line_within bytes count size (line, rest, before, counted, sized) =
    let l = ap length before.text_is ∙ length-append (print_chunk_line line) rest in (omega (arith, counted, line_bytes line), omega (arith, counted, l))

-- the line of a chunk was passed
pub line_passed : (least most announced count size : ℕ) (text body bytes : List ℕ) → IsPassedTo least most next.Line announced text body → IsLineFound bytes (lines.Complete count size)
    → 0 < size → announced + size ≤ most → IsPassedTo least most (next.Data size) (announced + size) (text ++ take count bytes) body
line_passed least most announced count size text body bytes at found some room =
    let p = at.passed in
    record {
      passed = record {
        chunks = p.chunks;
        front = print_chunk_line found.0;
        part = [];
        valid = p.valid;
        text_is = behind p.chunks text p.front (take count bytes) p.text_is
            ∙ ap (λ t. print_chunks p.chunks ++ t) (ap (λ t. t ++ take count bytes) p.is.0 ∙ line_is bytes count size found);
        body_is = p.body_is ∙ ap (λ t. bytes_of p.chunks ++ t) p.is.1;
        is = record {
          line = found.0;
          valid = found.2.valid;
          some = omega (arith, some, found.4);
          size = omega (arith, found.4);
          front_is = sym (append-nil (print_chunk_line found.0));
        };
      };
      counted = omega (arith, at.counted);
      fits = room;
      enough = tt;
    }

-- the line of the last chunk was passed
pub last_passed : (least most announced count size : ℕ) (text body bytes : List ℕ) → IsPassedTo least most next.Line announced text body → IsLineFound bytes (lines.Complete count size)
    → size ≡ 0 → least ≤ announced → IsPassedTo least most next.Trailers announced (text ++ take count bytes) body
last_passed least most announced count size text body bytes at found none enough =
    let p = at.passed in
    record {
      passed = record {
        chunks = p.chunks;
        front = print_chunk_line found.0;
        part = [];
        valid = p.valid;
        text_is = behind p.chunks text p.front (take count bytes) p.text_is
            ∙ ap (λ t. print_chunks p.chunks ++ t) (ap (λ t. t ++ take count bytes) p.is.0 ∙ line_is bytes count size found);
        body_is = p.body_is ∙ ap (λ t. bytes_of p.chunks ++ t) p.is.1;
        is = record { last = found.0; valid = found.2.valid; size = sym found.4 ∙ none; front_is = refl; part_is = refl };
      };
      counted = at.counted;
      fits = at.fits;
      enough = enough;
    }

-- bytes of a chunk were passed
pub data_passed : (least most announced left count : ℕ) (text body bytes : List ℕ) → IsPassedTo least most (next.Data left) announced text body → count ≤ left → count ≤ length bytes
    → IsPassedTo least most (next.Data (left - count)) announced (text ++ take count bytes) (body ++ take count bytes)
data_passed least most announced left count text body bytes at some fits =
    let p = at.passed in
    let new : List ℕ = take count bytes in
    let counted : length (take count bytes) ≡ count = length-take-le count bytes fits in
    record {
      passed = record {
        chunks = p.chunks;
        front = p.front ++ new;
        part = p.part ++ new;
        valid = p.valid;
        text_is = behind p.chunks text p.front new p.text_is;
        body_is = ap (λ t. t ++ new) p.body_is ∙ append_assoc (bytes_of p.chunks) p.part new;
        is = record {
          line = p.is.line;
          valid = p.is.valid;
          some = p.is.some;
          size = (let l = length-append p.part new in omega (arith, l, counted, some, p.is.size));
          front_is = ap (λ t. t ++ new) p.is.front_is ∙ append_assoc (print_chunk_line p.is.line) p.part new;
        };
      };
      counted = (let l = length-append body new in omega (arith, l, counted, some, at.counted));
      fits = at.fits;
      enough = tt;
    }

-- the end of a chunk was passed
pub end_passed : (least most announced left : ℕ) (text body bytes : List ℕ) → IsPassedTo least most (next.Data left) announced text body → left ≡ 0 → take 2 bytes ≡ crlf_bytes
    → IsPassedTo least most next.Line announced (text ++ take 2 bytes) body
end_passed least most announced left text body bytes at none e =
    let p = at.passed in
    let chunk : Chunk = record { line = p.is.line; bytes = p.part } in
    let printed : print_chunks (p.chunks ++ chunk ∷ []) ≡ print_chunks p.chunks ++ print_chunk chunk =
    flat_map-append print_chunk p.chunks (chunk ∷ []) ∙ ap (λ t. print_chunks p.chunks ++ t) (append-nil (print_chunk chunk)) in
    let given : bytes_of (p.chunks ++ chunk ∷ []) ≡ bytes_of p.chunks ++ p.part =
    flat_map-append (λ (c : Chunk). c.bytes) p.chunks (chunk ∷ []) ∙ ap (λ t. bytes_of p.chunks ++ t) (append-nil p.part) in
    let whole : p.front ++ take 2 bytes ≡ print_chunk chunk =
    ap (λ t. p.front ++ t) e ∙ ap (λ t. t ++ crlf_bytes) p.is.front_is ∙ append_assoc (print_chunk_line p.is.line) p.part crlf_bytes in
    record {
      passed = record {
        chunks = p.chunks ++ chunk ∷ [];
        front = [];
        part = [];
        valid = All-push IsChunk p.chunks chunk p.valid
            (record { line = p.is.valid; size = omega (arith, p.is.size, none); some = omega (arith, p.is.size, none, p.is.some) });
        text_is = behind p.chunks text p.front (take 2 bytes) p.text_is ∙ ap (λ t. print_chunks p.chunks ++ t) whole ∙ sym printed
            ∙ sym (append-nil (print_chunks (p.chunks ++ chunk ∷ [])));
        body_is = p.body_is ∙ sym given ∙ sym (append-nil (bytes_of (p.chunks ++ chunk ∷ [])));
        is = (refl, refl);
      };
      counted = omega (arith, at.counted, none);
      fits = at.fits;
      enough = tt;
    }

-- the trailer section was passed
pub trailers_within : (bytes : List ℕ) (count : ℕ) → AreTrailersFound bytes (trailers.Complete count) → (0 < count) × (count ≤ length bytes)
trailers_within bytes count (fields, end, rest, valid, e, counted) =
    let l = ap length e ∙ length-append (print_section fields end) rest in (omega (arith, counted, section_bytes fields end), omega (arith, counted, l))

pub trailers_passed : (least most announced count : ℕ) (text body bytes : List ℕ) → IsPassedTo least most next.Trailers announced text body → AreTrailersFound bytes (trailers.Complete count)
    → IsPassedTo least most next.Nothing announced (text ++ take count bytes) body
trailers_passed least most announced count text body bytes at (fields, end, rest, valid, e, counted) =
    let p = at.passed in
    let taken : take count bytes ≡ print_section fields end = ap (take count) e ∙ take_at (print_section fields end) rest count (sym counted) in
    record {
      passed = record {
        chunks = p.chunks;
        front = p.front ++ take count bytes;
        part = p.part;
        valid = p.valid;
        text_is = behind p.chunks text p.front (take count bytes) p.text_is;
        body_is = p.body_is;
        is = record {
          last = p.is.last;
          valid = p.is.valid;
          size = p.is.size;
          fields = fields;
          end = end;
          trailers = valid;
          front_is = ap (λ t. t ++ take count bytes) p.is.front_is ∙ ap (λ t. print_chunk_line p.is.last ++ t) taken;
          part_is = p.is.part_is;
        };
      };
      counted = at.counted;
      fits = at.fits;
      enough = at.enough;
    }

-- why no chunk follows what was passed
no_chunk : (least most announced : ℕ) (fault : HttpFault) (text body rest : List ℕ) → IsPassedTo least most next.Line announced text body
    → IsWhyNoChunk (least - announced) (most - announced) fault rest → IsNotChunked least most fault (text ++ rest)
no_chunk least most announced fault text body rest at why =
    let p = at.passed in
    let same : announced ≡ length (bytes_of p.chunks) =
    let l = ap length (p.body_is ∙ ap (λ t. bytes_of p.chunks ++ t) p.is.1 ∙ append-nil (bytes_of p.chunks)) in omega (arith, l, at.counted) in
    record {
      chunks = p.chunks;
      rest = rest;
      valid = p.valid;
      fits = omega (arith, same, at.fits);
      text_is = behind p.chunks text p.front rest p.text_is ∙ ap (λ t. print_chunks p.chunks ++ (t ++ rest)) p.is.0;
      why = subst (λ (n : ℕ). IsWhyNoChunk (least - n) (most - n) fault rest) same why;
    }

pub line_awaited : (least most announced : ℕ) (text body bytes : List ℕ) → IsPassedTo least most next.Line announced text body → IsUnfinishedLine bytes
    → IsNotChunked least most Short (text ++ bytes)
line_awaited least most announced text body bytes at is = no_chunk least most announced Short text body bytes at (inl is)

-- a fault stays, whatever follows
never_more : (bytes more : List ℕ) → NeverBeginsWithLine bytes → NeverBeginsWithLine (bytes ++ more)
never_more bytes more never = λ further line rest valid e. never (more ++ further) line rest valid (sym (append_assoc bytes more further) ∙ e)

pub line_refused : (least most announced : ℕ) (text body bytes : List ℕ) → IsPassedTo least most next.Line announced text body → NeverBeginsWithLine bytes
    → (more : List ℕ) → IsNotChunked least most Coding (text ++ (bytes ++ more))
line_refused least most announced text body bytes at never more = no_chunk least most announced Coding text body (bytes ++ more) at (inl (never_more bytes more never))

line_further : (bytes more : List ℕ) (line : ChunkLine) (rest : List ℕ) → IsLineBefore bytes line rest → IsLineBefore (bytes ++ more) line (rest ++ more)
line_further bytes more line rest before = record { valid = before.valid; text_is = ap (λ t. t ++ more) before.text_is ∙ append_assoc (print_chunk_line line) rest more }

pub line_too_long : (least most announced count size : ℕ) (text body bytes : List ℕ) → IsPassedTo least most next.Line announced text body → IsLineFound bytes (lines.Complete count size)
    → most - announced < size → (more : List ℕ) → IsNotChunked least most BodyTooLong (text ++ (bytes ++ more))
line_too_long least most announced count size text body bytes at found over more =
    no_chunk least most announced BodyTooLong text body (bytes ++ more) at
    (found.0, found.1 ++ more, line_further bytes more found.0 found.1 found.2, omega (arith, over, found.4))

pub line_too_early : (least most announced count size : ℕ) (text body bytes : List ℕ) → IsPassedTo least most next.Line announced text body → IsLineFound bytes (lines.Complete count size)
    → size ≡ 0 → announced < least → (more : List ℕ) → IsNotChunked least most Length (text ++ (bytes ++ more))
line_too_early least most announced count size text body bytes at found none few more =
    no_chunk least most announced Length text body (bytes ++ more) at
    (found.0, found.1 ++ more, line_further bytes more found.0 found.1 found.2, (sym found.4 ∙ none, omega (arith, few)))

-- inside a chunk: what follows its line
inside : (least most announced left : ℕ) (text body rest : List ℕ) (fault : HttpFault) (at : IsPassedTo least most (next.Data left) announced text body)
    → IsWhyNoChunk (least - length (bytes_of at.passed.chunks)) (most - length (bytes_of at.passed.chunks)) fault (print_chunk_line at.passed.is.line ++ (at.passed.part ++ rest))
    → IsNotChunked least most fault (text ++ rest)
inside least most announced left text body rest fault at why =
    let p = at.passed in
    let l = ap length p.body_is ∙ length-append (bytes_of p.chunks) p.part in
    record {
      chunks = p.chunks;
      rest = print_chunk_line p.is.line ++ (p.part ++ rest);
      valid = p.valid;
      fits = omega (arith, l, at.counted, at.fits);
      text_is = behind p.chunks text p.front rest p.text_is
          ∙ ap (λ t. print_chunks p.chunks ++ t) (ap (λ t. t ++ rest) p.is.front_is ∙ append_assoc (print_chunk_line p.is.line) p.part rest);
      why = why;
    }

fitting : (missing room size : ℕ) → 0 < size → size ≤ room → IsFitting missing room size
fitting missing room zero some fits = absurd (omega (arith, some))
fitting missing room (suc size) some fits = fits

pub unfinished_at : (size : ℕ) (text : List ℕ) → 0 < size → IsUnfinishedChunk size text → IsUnfinishedBehind size text
unfinished_at zero text some is = absurd (omega (arith, some))
unfinished_at (suc size) text some is = is

pub bad_at : (size : ℕ) (text : List ℕ) → 0 < size → IsBadChunk size text → IsBadBehind size text
bad_at zero text some bad = absurd (omega (arith, some))
bad_at (suc size) text some bad = bad

room_inside : (least most announced left : ℕ) (text body : List ℕ) (at : IsPassedTo least most (next.Data left) announced text body)
    → chunk_size at.passed.is.line ≤ most - length (bytes_of at.passed.chunks)
room_inside least most announced left text body at =
    let l = ap length at.passed.body_is ∙ length-append (bytes_of at.passed.chunks) at.passed.part in
    omega (arith, l, at.counted, at.fits, at.passed.is.size)

-- more bytes of a chunk, or its CR LF, are to come
awaited : (least most announced left : ℕ) (text body bytes : List ℕ) (at : IsPassedTo least most (next.Data left) announced text body)
    → IsUnfinishedChunk (chunk_size at.passed.is.line) (at.passed.part ++ bytes) → IsNotChunked least most Short (text ++ bytes)
awaited least most announced left text body bytes at is =
    let p = at.passed in
    inside least most announced left text body bytes Short at (inr (
      p.is.line,
      p.part ++ bytes,
      record { valid = p.is.valid; text_is = refl },
      (fitting _ _ (chunk_size p.is.line) p.is.some (room_inside least most announced left text body at), unfinished_at (chunk_size p.is.line) (p.part ++ bytes) p.is.some is),
    ))

pub data_awaited : (least most announced left : ℕ) (text body bytes : List ℕ) → IsPassedTo least most (next.Data left) announced text body → length bytes < left
    → IsNotChunked least most Short (text ++ bytes)
data_awaited least most announced left text body bytes at few =
    awaited least most announced left text body bytes at (inl (let l = length-append at.passed.part bytes in omega (arith, l, few, at.passed.is.size)))

pub end_awaited : (least most announced left : ℕ) (text body bytes : List ℕ) → IsPassedTo least most (next.Data left) announced text body → left ≡ 0 → IsUnfinishedEnd bytes
    → IsNotChunked least most Short (text ++ bytes)
end_awaited least most announced left text body bytes at none is =
    awaited least most announced left text body bytes at (inr (at.passed.part, bytes, (let s = at.passed.is.size in omega (arith, s, none)), refl, is))

-- something else than CR LF follows the bytes of a chunk
pub data_refused : (least most announced left : ℕ) (text body bytes : List ℕ) → IsPassedTo least most (next.Data left) announced text body → left ≡ 0 → NeverBeginsWithEnd bytes
    → (more : List ℕ) → IsNotChunked least most Coding (text ++ (bytes ++ more))
data_refused least most announced left text body bytes at none never more =
    let p = at.passed in
    let stays : NeverBeginsWithEnd (bytes ++ more) = λ further rest e. never (more ++ further) rest (sym (append_assoc bytes more further) ∙ e) in
    inside least most announced left text body (bytes ++ more) Coding at (inr (
      p.is.line,
      p.part ++ (bytes ++ more),
      record { valid = p.is.valid; text_is = refl },
      (
        fitting _ _ (chunk_size p.is.line) p.is.some (room_inside least most announced left text body at),
        bad_at (chunk_size p.is.line) (p.part ++ (bytes ++ more)) p.is.some (p.part, bytes ++ more, omega (arith, p.is.size, none), refl, stays),
      ),
    ))

-- memory may run out for the bytes of a chunk
pub data_unkept : (least most announced left : ℕ) (text body bytes : List ℕ) → IsPassedTo least most (next.Data left) announced text body
    → (more : List ℕ) → IsNotChunked least most Memory (text ++ (bytes ++ more))
data_unkept least most announced left text body bytes at more =
    let p = at.passed in
    inside least most announced left text body (bytes ++ more) Memory at (
      p.is.line,
      p.part ++ (bytes ++ more),
      record { valid = p.is.valid; text_is = refl },
      (p.is.some, room_inside least most announced left text body at),
    )

-- behind the last line
behind_last : (least most announced : ℕ) (text body rest : List ℕ) (fault : HttpFault) (at : IsPassedTo least most next.Trailers announced text body)
    → IsWhyNoChunk (least - length (bytes_of at.passed.chunks)) (most - length (bytes_of at.passed.chunks)) fault (print_chunk_line at.passed.is.last ++ rest)
    → IsNotChunked least most fault (text ++ rest)
behind_last least most announced text body rest fault at why =
    let p = at.passed in
    let l = ap length p.body_is ∙ length-append (bytes_of p.chunks) p.part in
    record {
      chunks = p.chunks;
      rest = print_chunk_line p.is.last ++ rest;
      valid = p.valid;
      fits = omega (arith, l, at.counted, at.fits);
      text_is = behind p.chunks text p.front rest p.text_is ∙ ap (λ t. print_chunks p.chunks ++ (t ++ rest)) p.is.front_is;
      why = why;
    }

none_missing : (least most announced : ℕ) (text body : List ℕ) (at : IsPassedTo least most next.Trailers announced text body) → least - length (bytes_of at.passed.chunks) ≡ 0
none_missing least most announced text body at =
    let l = ap length at.passed.body_is ∙ length-append (bytes_of at.passed.chunks) at.passed.part in
    let n = ap length at.passed.is.part_is in
    omega (arith, l, n, at.counted, at.enough)

fitting_last : (missing room size : ℕ) → size ≡ 0 → missing ≡ 0 → IsFitting missing room size
fitting_last missing room zero none whole = whole
fitting_last missing room (suc size) none whole = absurd (omega (arith, none))

pub trailers_awaited : (least most announced : ℕ) (text body bytes : List ℕ) → IsPassedTo least most next.Trailers announced text body → IsUnfinishedTrailers bytes
    → IsNotChunked least most Short (text ++ bytes)
trailers_awaited least most announced text body bytes at is =
    let p = at.passed in
    behind_last least most announced text body bytes Short at (inr (
      p.is.last,
      bytes,
      record { valid = p.is.valid; text_is = refl },
      (fitting_last _ _ (chunk_size p.is.last) p.is.size (none_missing least most announced text body at), subst (λ (n : ℕ). IsUnfinishedBehind n bytes) (sym p.is.size) is),
    ))

pub trailers_refused : (least most announced : ℕ) (text body bytes : List ℕ) → IsPassedTo least most next.Trailers announced text body → NeverBeginsWithTrailers bytes
    → (more : List ℕ) → IsNotChunked least most Coding (text ++ (bytes ++ more))
trailers_refused least most announced text body bytes at never more =
    let p = at.passed in
    let stays : NeverBeginsWithTrailers (bytes ++ more) = λ further fields end rest valid e. never (more ++ further) fields end rest valid (sym (append_assoc bytes more further) ∙ e) in
    behind_last least most announced text body (bytes ++ more) Coding at (inr (
      p.is.last,
      bytes ++ more,
      record { valid = p.is.valid; text_is = refl },
      (fitting_last _ _ (chunk_size p.is.last) p.is.size (none_missing least most announced text body at), subst (λ (n : ℕ). IsBadBehind n (bytes ++ more)) (sym p.is.size) stays),
    ))
