-- The length and the fields of a response's head that was read.
use Rattle.std.proofs.Common.{◌≡◌, ◌≤◌, ◌<◌, ◌+◌, ◌-◌, ℕ, List, length, take, drop, map, sym, ap, arith, ◌∙◌}
use Rattle.std.proofs.lemmas.List.{length-append, length-map, length-take, drop-take}
use Rattle.httparse.specs.Grammar.{ResponseHead, print_response}
use Rattle.httparse.specs.Spans.{IsResponseAt, IsResponseWithin, header_bytes, name_and_value}
use Rattle.httparse.specs.declared.spans.ResponseSpans.{ResponseSpans}
use Rattle.httparse.specs.declared.spans.HeaderSpan.{HeaderSpan}

-- each head has bytes
pub some_bytes : (h : ResponseHead) → 0 < length (print_response h)
unfolding print_response
some_bytes h = simp length-append (omega arith)

-- a head that was read has no more fields than there are headers
pub counted : (buffer : List ℕ) (headers : List HeaderSpan) (spans : ResponseSpans) (h : ResponseHead) → IsResponseWithin buffer headers spans → IsResponseAt buffer headers spans h
    → length h.fields ≤ length headers
counted buffer headers spans h within at =
    let same : length (map (header_bytes buffer) (take spans.headers headers)) ≡ length (map name_and_value h.fields) = ap length at.fields in
    omega (arith, simp length-map at same, length-take spans.headers headers)

-- the part of a buffer between two places
pub part_is : (buffer : List ℕ) (start filled : ℕ) → start ≤ filled → take (filled - start) (drop start buffer) ≡ drop start (take filled buffer)
part_is buffer start filled ordered =
    let whole : start + (filled - start) ≡ filled = omega arith in
    sym (ap (λ n. drop start (take n buffer)) (sym whole) ∙ drop-take start (filled - start) buffer)
