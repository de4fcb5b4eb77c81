-- The parts of a chunked body at the front of a text.
use Rattle.std.proofs.Common.{◌≡◌, ◌≤◌, ◌<◌, ◌+◌, ℕ, Bool, true, false, List, [], ◌∷◌, ◌++◌, length, take, drop, map, refl, sym, ap, arith, ◌∙◌, append_assoc}
use Rattle.std.specs.Prelude.{eqb}
use Rattle.std.specs.List.{starts_with}
use Rattle.std.proofs.lemmas.Bool.Decides.{Decides-eqb}
use Rattle.std.proofs.lemmas.Slice.Eq.{starts_is}
use Rattle.std.proofs.lemmas.List.{length-append, take-append-drop, take-append-le, take_at, length-take-le, length-take, length-map}
use Rattle.httparse.specs.Ascii.{crlf_bytes}
use Rattle.httparse.specs.Grammar.{ChunkLine, print_chunk_line, Field, LineEnd, crlf, lf, print_section, HasNoChunkLine, NeverHasChunkLine, HasNoSection}
use Rattle.httparse.specs.Spans.{IsChunkLineAt, IsSectionOf, SectionOverflows, header_bytes, name_and_value}
use Rattle.httparse.specs.declared.spans.HeaderSpan.{HeaderSpan}
use Rattle.feed_http.specs.declared.fetching.chunk_parts.Line.TheVariants as lines
use Rattle.feed_http.specs.declared.fetching.chunk_parts.DataEnd.TheVariants as ends
use Rattle.feed_http.specs.declared.fetching.chunk_parts.Trailers.TheVariants as trailers
use Rattle.feed_http.specs.Chunks.{NeverBeginsWithLine, NeverBeginsWithTrailers}
use Rattle.feed_http.specs.ArrivingChunks.{IsLineFound, IsEndFound, AreTrailersFound}

-- the front of a text, and what follows it
front_of : (text front : List ℕ) (count : ℕ) → front ≡ take count text → text ≡ front ++ drop count text
front_of text front count e = sym (ap (λ t. t ++ drop count text) e ∙ take-append-drop count text)

-- a text that is not longer than the front is within it
pub in_front : (front more p rest : List ℕ) → length p ≤ length front → front ++ more ≡ p ++ rest → front ≡ p ++ drop (length p) front
in_front front more p rest fits e =
    let same : take (length p) front ≡ p = sym (take-append-le (length p) front more fits) ∙ ap (take (length p)) e ∙ take_at p rest (length p) refl in
    sym (take-append-drop (length p) front) ∙ ap (λ t. t ++ drop (length p) front) same

pub line_bytes : (l : ChunkLine) → 0 < length (print_chunk_line l)
unfolding print_chunk_line
line_bytes l = simp length-append (omega arith)

pub section_bytes : (fields : List Field) (end : LineEnd) → 0 < length (print_section fields end)
section_bytes fields crlf = simp length-append (omega arith)
section_bytes fields lf = simp length-append (omega arith)

-- a line at the front
pub line_complete : (text front : List ℕ) (count n size : ℕ) → front ≡ take count text → count ≤ length text → count ≤ 1024
    → (l : ChunkLine) × IsChunkLineAt front n size l → IsLineFound text (lines.Complete n size)
line_complete text front count n size e within most (l, at) =
    let sizes : length front ≡ length (print_chunk_line l) + length (drop n front) = ap length at.reads.1 ∙ length-append (print_chunk_line l) (drop n front) in
    let counted : length front ≡ count = ap length e ∙ length-take-le count text within in (
      l,
      drop n front ++ drop count text,
      record {
        valid = record { valid = at.reads.0; short = omega (arith, sizes, counted, most) };
        text_is = front_of text front count e ∙ ap (λ t. t ++ drop count text) at.reads.1 ∙ append_assoc (print_chunk_line l) (drop n front) (drop count text);
      },
      at.len_is,
      at.size_is,
    )

-- what cannot become a line, whatever follows
pub line_never : (text front : List ℕ) (count : ℕ) → front ≡ take count text → NeverHasChunkLine front → NeverBeginsWithLine text
line_never text front count e never = λ more line tail valid is.
    never (drop count text ++ more) line tail (valid.valid, sym (append_assoc front (drop count text) more) ∙ ap (λ t. t ++ more) (sym (front_of text front count e)) ∙ is)

pub line_full : (text front : List ℕ) (count : ℕ) → front ≡ take count text → HasNoChunkLine front → 1024 ≤ length front → NeverBeginsWithLine text
line_full text front count e none long = λ more line tail valid is.
    let fits : length (print_chunk_line line) ≤ length front = omega (arith, valid.short) in
    none line (drop (length (print_chunk_line line)) front) (
      valid.valid,
      in_front front (drop count text ++ more) (print_chunk_line line) tail fits
          (sym (append_assoc front (drop count text) more) ∙ ap (λ t. t ++ more) (sym (front_of text front count e)) ∙ is),
    )

-- a trailer section at the front
pub section_complete : (text front : List ℕ) (count : ℕ) (headers : List HeaderSpan) (found : ℕ × ℕ) → front ≡ take count text → count ≤ length text → count ≤ 8192
    → length headers ≡ 64 → IsSectionOf front 0 headers found → AreTrailersFound text (trailers.Complete found.0)
section_complete text front count headers found e within most room of =
    let fields : List Field = of.0 in
    let section : List ℕ = print_section of.0 of.1 in
    let rest : List ℕ = drop found.0 front in
    let sizes : length front ≡ length section + length rest = ap length of.2.reads.1 ∙ length-append section rest in
    let counted : length front ≡ count = ap length e ∙ length-take-le count text within in
    let many : length (map (header_bytes front) (take found.1 headers)) ≡ length (map name_and_value fields) = ap length of.2.fields_are in (
      of.0,
      of.1,
      rest ++ drop count text,
      record {
        valid = of.2.reads.0;
        few = omega (arith, simp length-map at many, length-take found.1 headers, room);
        short = omega (arith, sizes, counted, most);
      },
      front_of text front count e ∙ ap (λ t. t ++ drop count text) of.2.reads.1 ∙ append_assoc section rest (drop count text),
      (let l = of.2.len_is in omega (arith, l)),
    )

pub section_never : (text front : List ℕ) (count : ℕ) → front ≡ take count text → SectionOverflows 64 front → NeverBeginsWithTrailers text
section_never text front count e over = λ more fields end tail valid is.
    let many : 64 < length fields =
    over (drop count text ++ more) fields end tail (valid.valid, sym (append_assoc front (drop count text) more) ∙ ap (λ t. t ++ more) (sym (front_of text front count e)) ∙ is) in
    absurd (omega (arith, many, valid.few))

pub section_full : (text front : List ℕ) (count : ℕ) → front ≡ take count text → HasNoSection front → 8192 ≤ length front → NeverBeginsWithTrailers text
section_full text front count e none long = λ more fields end tail valid is.
    let fits : length (print_section fields end) ≤ length front = omega (arith, valid.short) in
    none fields end (drop (length (print_section fields end)) front) (
      valid.valid,
      in_front front (drop count text ++ more) (print_section fields end) tail fits
          (sym (append_assoc front (drop count text) more) ∙ ap (λ t. t ++ more) (sym (front_of text front count e)) ∙ is),
    )

-- CR LF at the front
pub end_complete : (text : List ℕ) (found : Bool) → found ≡ starts_with eqb text crlf_bytes → found ≡ true → IsEndFound text ends.Complete
end_complete text found tests is =
    let e : text ≡ crlf_bytes ++ drop 2 text = (starts_is Decides-eqb text crlf_bytes found tests).0 is in
    ((let l = ap length e ∙ length-append crlf_bytes (drop 2 text) in omega (arith, l)), ap (take 2) e)

-- a front of CR LF
pub end_unfinished : (text : List ℕ) (found part : Bool) → found ≡ starts_with eqb text crlf_bytes → found ≡ false → part ≡ starts_with eqb crlf_bytes text → part ≡ true
    → IsEndFound text ends.Unfinished
end_unfinished [] found part tests fails tests' is = record { short = omega arith; more = crlf_bytes; may_become = refl }
end_unfinished (x ∷ []) found part tests fails tests' is =
    let e : crlf_bytes ≡ x ∷ [] ++ drop 1 crlf_bytes = (starts_is Decides-eqb crlf_bytes (x ∷ []) part tests').0 is in
    record { short = omega arith; more = drop 1 crlf_bytes; may_become = sym e }
end_unfinished (x ∷ y ∷ more) found part tests fails tests' is =
    let e : crlf_bytes ≡ x ∷ y ∷ more ++ drop (length (x ∷ y ∷ more)) crlf_bytes = (starts_is Decides-eqb crlf_bytes (x ∷ y ∷ more) part tests').0 is in
    let yes : found ≡ true = (starts_is Decides-eqb (x ∷ y ∷ more) crlf_bytes found tests).1 more (cc) in
    absurd (cc)

-- anything else
pub end_invalid : (text : List ℕ) (found part : Bool) → found ≡ starts_with eqb text crlf_bytes → found ≡ false → part ≡ starts_with eqb crlf_bytes text → part ≡ false
    → IsEndFound text ends.Invalid
end_invalid [] found part tests fails tests' not = λ more rest e.
    let yes : part ≡ true = (starts_is Decides-eqb crlf_bytes [] part tests').1 crlf_bytes refl in absurd (cc)
end_invalid (x ∷ []) found part tests fails tests' not = λ more rest e.
    let first : x ≡ 13 = cc in
    let yes : part ≡ true = (starts_is Decides-eqb crlf_bytes (x ∷ []) part tests').1 (10 ∷ []) (cc) in absurd (cc)
end_invalid (x ∷ y ∷ tail) found part tests fails tests' not = λ more rest e.
    let first : x ≡ 13 = cc in
    let second : y ≡ 10 = cc in
    let yes : found ≡ true = (starts_is Decides-eqb (x ∷ y ∷ tail) crlf_bytes found tests).1 tail (cc) in absurd (cc)
