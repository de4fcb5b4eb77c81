-- A chunked body ends in one place: what follows its chunks is determined by the text.
use Rattle.std.proofs.Common.{◌≡◌, ◌≤◌, ◌<◌, ◌+◌, ◌-◌, ℕ, zero, suc, List, [], ◌∷◌, ◌++◌, length, take, refl, sym, ap, arith, ◌∙◌, append_assoc, subst, inl, inr}
use Rattle.std.specs.List.{AllByRecursion}
use Rattle.std.proofs.lemmas.List.{append-nil, length-append, take_at, append_cancel_left}
use Rattle.std.proofs.lemmas.List.Elements.{recursion_from_All}
use Rattle.std.proofs.lemmas.Grind.{flat_map-append}
use Rattle.httparse.specs.Ascii.{crlf_bytes}
use Rattle.httparse.specs.Grammar.{ChunkLine, print_chunk_line, chunk_size, print_section}
use Rattle.httparse.proofs.ChunkLemmas.{chunk_line_unique}
use Rattle.httparse.proofs.GrammarLemmas.{section_unique}
use Rattle.feed_http_heads.specs.declared.http_fault.HttpFault.{HttpFault}
use Rattle.feed_http_heads.specs.declared.http_fault.HttpFault.TheVariants.{Short, Coding, Length, BodyTooLong, Memory}
use Rattle.feed_http.specs.Chunks.{Chunk, IsChunk, IsLine, print_chunk, print_chunks, bytes_of, IsChunked, IsBodyChunked, IsNotChunked, IsWhyNoChunk}
use Rattle.feed_http.specs.Chunks.{IsUnfinishedChunk, IsUnfinishedBehind, IsUnfinishedLine}
use Rattle.feed_http.specs.Chunks.{IsLineBefore, NeverBeginsWithLine, IsBadBehind, IsBadChunk}
use Rattle.feed_http.specs.ArrivingChunks.{IsWholeChunked}

-- the text begins with the line of a last chunk
pub record IsLastAhead (text : List ℕ) : Type 0 where
  pub line : ChunkLine
  pub rest : List ℕ
  pub valid : IsLine line
  pub size : chunk_size line ≡ 0
  pub text_is : text ≡ print_chunk_line line ++ rest

-- a chunk in front: its line, and what follows that
opened : (c : Chunk) (cs : List Chunk) (s : List ℕ) → print_chunks (c ∷ cs) ++ s ≡ print_chunk_line c.line ++ (c.bytes ++ (crlf_bytes ++ (print_chunks cs ++ s)))
opened c cs s =
    append_assoc (print_chunk c) (print_chunks cs) s
    ∙ append_assoc (print_chunk_line c.line) (c.bytes ++ crlf_bytes) (print_chunks cs ++ s)
    ∙ ap (λ t. print_chunk_line c.line ++ t) (append_assoc c.bytes crlf_bytes (print_chunks cs ++ s))

-- the line of a chunk with data is not the line of the last chunk
pub not_last : (c : Chunk) (rest s : List ℕ) → IsChunk c → IsLastAhead s → s ≡ print_chunk_line c.line ++ rest → ⊥
not_last c rest s valid last e =
    let same = chunk_line_unique s c.line last.line rest last.rest (valid.line.valid, e) (last.valid.valid, last.text_is) in
    absurd (omega (arith, ap chunk_size same.0, last.size, valid.size, valid.some))

-- lists of one length at the front of one text are equal, and so is what follows
pub front_same : (p q x y : List ℕ) → length p ≡ length q → p ++ x ≡ q ++ y → (p ≡ q) × (x ≡ y)
front_same p q x y l e =
    let first : p ≡ q = sym (take_at p x (length p) refl) ∙ ap (take (length p)) e ∙ take_at q y (length p) (sym l) in
    (first, append_cancel_left q x y (ap (λ t. t ++ x) (sym first) ∙ e))

-- the chunks ahead of a last line begin with all chunks that the text begins with
pub record IsContinued (cs ds : List Chunk) (s t : List ℕ) : Type 0 where
  pub more : List Chunk
  pub each : AllByRecursion IsChunk more
  pub chunks_are : cs ≡ ds ++ more
  pub rest_is : t ≡ print_chunks more ++ s

pub continued : (ds cs : List Chunk) (s t : List ℕ) → AllByRecursion IsChunk cs → AllByRecursion IsChunk ds → IsLastAhead s → print_chunks cs ++ s ≡ print_chunks ds ++ t → IsContinued cs ds s t
continued [] cs s t each all last e = record { more = cs; each = each; chunks_are = refl; rest_is = sym e }
continued (d ∷ ds) [] s t each all last e = absurd (not_last d (d.bytes ++ (crlf_bytes ++ (print_chunks ds ++ t))) s all.0 last (e ∙ opened d ds t))
continued (d ∷ ds) (c ∷ cs) s t each all last e =
    let text : List ℕ = print_chunks (c ∷ cs) ++ s in
    let lines = chunk_line_unique text c.line d.line (c.bytes ++ (crlf_bytes ++ (print_chunks cs ++ s))) (d.bytes ++ (crlf_bytes ++ (print_chunks ds ++ t)))
    (each.0.line.valid, opened c cs s) (all.0.line.valid, e ∙ opened d ds t) in
    let sizes : length c.bytes ≡ length d.bytes = each.0.size ∙ ap chunk_size lines.0 ∙ sym all.0.size in
    let parts = front_same c.bytes d.bytes (crlf_bytes ++ (print_chunks cs ++ s)) (crlf_bytes ++ (print_chunks ds ++ t)) sizes lines.1 in
    let same : c ≡ d = λ i. record { line = lines.0 i; bytes = parts.0 i } in
    let rest = continued ds cs s t each.1 all.1 last (append_cancel_left crlf_bytes (print_chunks cs ++ s) (print_chunks ds ++ t) parts.1) in
    record { more = rest.more; each = rest.each; chunks_are = ap (λ (l : List Chunk). c ∷ l) rest.chunks_are ∙ ap (λ (x : Chunk). x ∷ (ds ++ rest.more)) same; rest_is = rest.rest_is }

last_ahead : (text : List ℕ) (chunks : List Chunk) (is : IsChunked text chunks) → IsLastAhead (print_chunk_line is.last ++ (print_section is.fields is.end ++ is.rest))
last_ahead text chunks is = record { line = is.last; rest = print_section is.fields is.end ++ is.rest; valid = is.last_valid; size = is.size; text_is = refl }

none_more : (more : List Chunk) (s t : List ℕ) → AllByRecursion IsChunk more → IsLastAhead t → t ≡ print_chunks more ++ s → more ≡ []
none_more [] s t each last e = refl
none_more (c ∷ cs) s t each last e = absurd (not_last c (c.bytes ++ (crlf_bytes ++ (print_chunks cs ++ s))) t each.0 last (e ∙ opened c cs s))

-- the chunks of a body are determined
pub one_list : (text : List ℕ) (cs ds : List Chunk) → IsChunked text cs → IsChunked text ds → cs ≡ ds
one_list text cs ds a b =
    let s : List ℕ = print_chunk_line a.last ++ (print_section a.fields a.end ++ a.rest) in
    let t : List ℕ = print_chunk_line b.last ++ (print_section b.fields b.end ++ b.rest) in
    let c = continued ds cs s t (recursion_from_All IsChunk cs a.valid) (recursion_from_All IsChunk ds b.valid) (last_ahead text cs a) (sym a.text_is ∙ b.text_is) in
    c.chunks_are ∙ ap (λ (l : List Chunk). ds ++ l) (none_more c.more s t c.each (last_ahead text ds b) c.rest_is) ∙ append-nil ds

-- and so are its bytes
pub one_body : (text body other : List ℕ) → IsBodyChunked body text → IsBodyChunked other text → body ≡ other
one_body text body other (cs, a, e) (ds, b, f) = e ∙ ap bytes_of (one_list text cs ds a b) ∙ sym f

-- behind the chunks of a complete body there is a line, so no unfinished one
has_line : (more : List Chunk) (s t : List ℕ) → AllByRecursion IsChunk more → IsLastAhead s → t ≡ print_chunks more ++ s → IsUnfinishedLine t → ⊥
has_line [] s t each last e unfinished = unfinished.not_whole last.line last.rest (last.valid.valid, e ∙ last.text_is)
has_line (c ∷ cs) s t each last e unfinished =
    unfinished.not_whole c.line (c.bytes ++ (crlf_bytes ++ (print_chunks cs ++ s))) (each.0.line.valid, e ∙ opened c cs s)

few_bytes : (size : ℕ) (text : List ℕ) → IsUnfinishedChunk size text → length text < size + 2
few_bytes size text (inl few) = omega (arith, few)
few_bytes size text (inr (bytes, rest, bytes_are, is, end)) = let l = ap length is ∙ length-append bytes rest in omega (arith, l, bytes_are, end.short)

has_size : (size : ℕ) (text : List ℕ) → 0 < size → size + 2 ≤ length text → IsUnfinishedBehind size text → ⊥
has_size zero text some long is = absurd (omega (arith, some))
has_size (suc size) text some long is = absurd (let few = few_bytes (suc size) text is in omega (arith, long, few))

-- an unfinished front behind a line: none where the rest is complete
has_end : (text : List ℕ) (cs : List Chunk) (a : IsChunked text cs) (line : ChunkLine) (rest t : List ℕ) → IsLine line → t ≡ print_chunk_line line ++ rest
    → t ≡ print_chunk_line a.last ++ (print_section a.fields a.end ++ a.rest) → IsUnfinishedBehind (chunk_size line) rest → ⊥
has_end text cs a line rest t valid e f behind =
    let same = chunk_line_unique t line a.last rest (print_section a.fields a.end ++ a.rest) (valid.valid, e) (a.last_valid.valid, f) in
    let zero' : chunk_size line ≡ 0 = ap chunk_size same.0 ∙ a.size in
    let unfinished = subst (λ (n : ℕ). IsUnfinishedBehind n rest) zero' behind in
    unfinished.not_whole a.fields a.end a.rest (a.trailers.valid, same.1)

has_bytes : (c : Chunk) (tail : List ℕ) (line : ChunkLine) (rest t : List ℕ) → IsChunk c → IsLine line → t ≡ print_chunk_line line ++ rest
    → t ≡ print_chunk_line c.line ++ (c.bytes ++ (crlf_bytes ++ tail)) → IsUnfinishedBehind (chunk_size line) rest → ⊥
has_bytes c tail line rest t chunk valid e f behind =
    let same = chunk_line_unique t line c.line rest (c.bytes ++ (crlf_bytes ++ tail)) (valid.valid, e) (chunk.line.valid, f) in
    let size : chunk_size line ≡ length c.bytes = ap chunk_size same.0 ∙ sym chunk.size in
    let l = ap length same.1 ∙ length-append c.bytes (crlf_bytes ++ tail) in
    let m = length-append crlf_bytes tail in
    has_size (chunk_size line) rest (omega (arith, size, chunk.some)) (omega (arith, size, l, m)) behind

-- no text has a complete chunked body and an unfinished one
pub never_both : (least most : ℕ) (text body : List ℕ) → IsBodyChunked body text → IsNotChunked least most Short text → ⊥
never_both least most text body (cs, a, e) n = by c.more c.each c.rest_is n.why
  where
    s : List ℕ
    s = print_chunk_line a.last ++ (print_section a.fields a.end ++ a.rest)

    c : IsContinued cs n.chunks s n.rest
    c = continued n.chunks cs s n.rest (recursion_from_All IsChunk cs a.valid) (recursion_from_All IsChunk n.chunks n.valid) (last_ahead text cs a) (sym a.text_is ∙ n.text_is)

    missing : ℕ
    missing = least - length (bytes_of n.chunks)

    room : ℕ
    room = most - length (bytes_of n.chunks)

    by : (more : List Chunk) → AllByRecursion IsChunk more → n.rest ≡ print_chunks more ++ s → IsWhyNoChunk missing room Short n.rest → ⊥
    by more each f (inl unfinished) = has_line more s n.rest each (last_ahead text cs a) f unfinished
    by [] each f (inr (line, rest, before, (fits, behind))) = has_end text cs a line rest n.rest before.valid before.text_is f behind
    by (d ∷ ds) each f (inr (line, rest, before, (fits, behind))) =
        has_bytes d (print_chunks ds ++ s) line rest n.rest each.0 before.valid before.text_is (f ∙ opened d ds s) behind

-- what follows a body is determined
one_rest : (text : List ℕ) (cs ds : List Chunk) (a : IsChunked text cs) (b : IsChunked text ds) → a.rest ≡ b.rest
one_rest text cs ds a b =
    let x : List ℕ = print_chunk_line a.last ++ (print_section a.fields a.end ++ a.rest) in
    let y : List ℕ = print_chunk_line b.last ++ (print_section b.fields b.end ++ b.rest) in
    let same : x ≡ y = append_cancel_left (print_chunks ds) x y (ap (λ (l : List Chunk). print_chunks l ++ x) (sym (one_list text cs ds a b)) ∙ sym a.text_is ∙ b.text_is) in
    let behind = (chunk_line_unique x a.last b.last (print_section a.fields a.end ++ a.rest) (print_section b.fields b.end ++ b.rest) (a.last_valid.valid, refl) (b.last_valid.valid, same)).1 in
    (section_unique (print_section a.fields a.end ++ a.rest) a.fields b.fields a.end b.end a.rest b.rest (a.trailers.valid, refl) (b.trailers.valid, behind)).2

pub none_left : (x y : List ℕ) → x ++ y ≡ [] → y ≡ []
none_left [] y e = e
none_left (b ∷ x) y e = absurd (cc)

-- so no front of a text that is a chunked body, and no more, has one
pub no_front : (front more body other : List ℕ) → IsBodyChunked body front → IsWholeChunked (front ++ more) other → more ≡ []
no_front front more body other (cs, a, e) whole =
    let longer : IsChunked (front ++ more) cs = record {
      valid = a.valid;
      last = a.last;
      last_valid = a.last_valid;
      size = a.size;
      fields = a.fields;
      end = a.end;
      trailers = a.trailers;
      rest = a.rest ++ more;
      text_is = ap (λ t. t ++ more) a.text_is ∙ append_assoc (print_chunks cs) (print_chunk_line a.last ++ (print_section a.fields a.end ++ a.rest)) more
          ∙ ap (λ t. print_chunks cs ++ t) (append_assoc (print_chunk_line a.last) (print_section a.fields a.end ++ a.rest) more
          ∙ ap (λ t. print_chunk_line a.last ++ t) (append_assoc (print_section a.fields a.end) a.rest more));
    } in
    let exact : IsChunked (front ++ more) whole.chunks = record {
      valid = whole.valid;
      last = whole.is.last;
      last_valid = whole.is.valid;
      size = whole.is.size;
      fields = whole.is.fields;
      end = whole.is.end;
      trailers = whole.is.trailers;
      rest = [];
      text_is = whole.text_is ∙ ap (λ t. print_chunks whole.chunks ++ t)
          (whole.is.front_is ∙ ap (λ t. print_chunk_line whole.is.last ++ t) (sym (append-nil (print_section whole.is.fields whole.is.end))));
    } in
    none_left a.rest more (one_rest (front ++ more) cs whole.chunks longer exact)

-- behind the chunks of a complete body: its last line, or another chunk
first_line : (more : List Chunk) (s t : List ℕ) → AllByRecursion IsChunk more → IsLastAhead s → t ≡ print_chunks more ++ s → NeverBeginsWithLine t → ⊥
first_line [] s t each last e never = never [] last.line last.rest last.valid (append-nil t ∙ e ∙ last.text_is)
first_line (c ∷ cs) s t each last e never =
    never [] c.line (c.bytes ++ (crlf_bytes ++ (print_chunks cs ++ s))) each.0.line (append-nil t ∙ e ∙ opened c cs s)

bad_chunk : (size : ℕ) (text : List ℕ) → 0 < size → IsBadBehind size text → IsBadChunk size text
bad_chunk zero text some bad = absurd (omega (arith, some))
bad_chunk (suc size) text some bad = bad

no_bad : (d : Chunk) (tail rest : List ℕ) (size : ℕ) → IsChunk d → size ≡ length d.bytes → rest ≡ d.bytes ++ (crlf_bytes ++ tail) → IsBadBehind size rest → ⊥
no_bad d tail rest size chunk e f bad =
    let b = bad_chunk size rest (omega (arith, e, chunk.some)) bad in
    let parts = front_same b.0 d.bytes b.1 (crlf_bytes ++ tail) (b.2 ∙ e) (sym b.3 ∙ f) in
    b.4 [] tail (append-nil b.1 ∙ parts.1)

-- a complete body has no fault but that memory ran out for it
pub no_fault : (least most : ℕ) (text body : List ℕ) (fault : HttpFault) → least ≤ length body → length body ≤ most → IsBodyChunked body text → IsNotChunked least most fault text → fault ≡ Memory
no_fault least most text body fault low high (cs, a, e) n = by fault c.more c.each c.chunks_are c.rest_is n.why
  where
    s : List ℕ
    s = print_chunk_line a.last ++ (print_section a.fields a.end ++ a.rest)

    c : IsContinued cs n.chunks s n.rest
    c = continued n.chunks cs s n.rest (recursion_from_All IsChunk cs a.valid) (recursion_from_All IsChunk n.chunks n.valid) (last_ahead text cs a) (sym a.text_is ∙ n.text_is)

    passed : ℕ
    passed = length (bytes_of n.chunks)

    -- a line behind the chunks is the last one, or that of the next
    last_line : (line : ChunkLine) (rest : List ℕ) → IsLineBefore n.rest line rest → n.rest ≡ s → (chunk_size line ≡ 0) × (rest ≡ print_section a.fields a.end ++ a.rest)
    last_line line rest before f =
        let same = chunk_line_unique n.rest line a.last rest (print_section a.fields a.end ++ a.rest) (before.valid.valid, before.text_is) (a.last_valid.valid, f) in
        (ap chunk_size same.0 ∙ a.size, same.1)

    next_line : (d : Chunk) (ds : List Chunk) (line : ChunkLine) (rest : List ℕ) → IsChunk d → IsLineBefore n.rest line rest → n.rest ≡ print_chunks (d ∷ ds) ++ s
        → (chunk_size line ≡ length d.bytes) × (rest ≡ d.bytes ++ (crlf_bytes ++ (print_chunks ds ++ s)))
    next_line d ds line rest chunk before f =
        let same = chunk_line_unique n.rest line d.line rest (d.bytes ++ (crlf_bytes ++ (print_chunks ds ++ s))) (before.valid.valid, before.text_is) (chunk.line.valid, f ∙ opened d ds s) in
        (ap chunk_size same.0 ∙ sym chunk.size, same.1)

    counted : (d : Chunk) (ds : List Chunk) → cs ≡ n.chunks ++ d ∷ ds → passed + length d.bytes ≤ most
    counted d ds f =
        let l : length body ≡ length (bytes_of n.chunks) + length (bytes_of (d ∷ ds)) =
        ap length (e ∙ ap bytes_of f ∙ flat_map-append (λ (x : Chunk). x.bytes) n.chunks (d ∷ ds)) ∙ length-append (bytes_of n.chunks) (bytes_of (d ∷ ds)) in
        let m = length-append d.bytes (bytes_of ds) in
        omega (arith, l, m, high)

    by : (fault : HttpFault) (more : List Chunk) → AllByRecursion IsChunk more → cs ≡ n.chunks ++ more → n.rest ≡ print_chunks more ++ s
        → IsWhyNoChunk (least - passed) (most - passed) fault n.rest → fault ≡ Memory
    by Memory more each g f why = refl
    by Short more each g f (inl unfinished) = absurd (has_line more s n.rest each (last_ahead text cs a) f unfinished)
    by Short [] each g f (inr (line, rest, before, (fits, behind))) = absurd (has_end text cs a line rest n.rest before.valid before.text_is f behind)
    by Short (d ∷ ds) each g f (inr (line, rest, before, (fits, behind))) =
        absurd (has_bytes d (print_chunks ds ++ s) line rest n.rest each.0 before.valid before.text_is (f ∙ opened d ds s) behind)
    by Coding more each g f (inl never) = absurd (first_line more s n.rest each (last_ahead text cs a) f never)
    by Coding [] each g f (inr (line, rest, before, (fits, bad))) =
        let l = last_line line rest before f in
        absurd (subst (λ (k : ℕ). IsBadBehind k rest) l.0 bad [] a.fields a.end a.rest a.trailers (append-nil rest ∙ l.1))
    by Coding (d ∷ ds) each g f (inr (line, rest, before, (fits, bad))) =
        let l = next_line d ds line rest each.0 before f in absurd (no_bad d (print_chunks ds ++ s) rest (chunk_size line) each.0 l.0 l.1 bad)
    by BodyTooLong [] each g f (line, rest, before, over) = let l = last_line line rest before f in absurd (omega (arith, l.0, over))
    by BodyTooLong (d ∷ ds) each g f (line, rest, before, over) =
        let l = next_line d ds line rest each.0 before f in absurd (omega (arith, l.0, over, counted d ds g))
    by Length [] each g f (line, rest, before, (none, missing)) =
        let l : length body ≡ passed = ap length (e ∙ ap bytes_of (g ∙ append-nil n.chunks)) in absurd (omega (arith, l, missing, low))
    by Length (d ∷ ds) each g f (line, rest, before, (none, missing)) =
        let l = next_line d ds line rest each.0 before f in absurd (omega (arith, l.0, none, each.0.some))
    by _ more each g f why = absurd why
