-- One step after another over the bytes at hand.
use Rattle.std.proofs.Common.{◌≡◌, ◌≤◌, ◌+◌, ◌-◌, ℕ, List, ◌++◌, length, take, drop, Option, Some, None, IfSome, sym, ap, arith, ◌∙◌, append_assoc}
use Rattle.std.specs.Prelude.{slice_range}
use Rattle.std.proofs.lemmas.List.{take_all, length-drop, take-append-drop}
use Rattle.feed_http_heads.proofs.BufferFilling.{take_both}

-- the bytes from a place on
pub rest_of : (bytes : List ℕ) (count : ℕ) → slice_range bytes count (length bytes) ≡ drop count bytes
rest_of bytes count = take_all (length bytes - count) (drop count bytes) (let l = length-drop count bytes in omega (arith, l))

-- what was passed before, and then
pub passed_more : (text bytes : List ℕ) (count n : ℕ) → text ++ take count bytes ++ take n (slice_range bytes count (length bytes)) ≡ text ++ take (count + n) bytes
passed_more text bytes count n =
    append_assoc text (take count bytes) (take n (slice_range bytes count (length bytes)))
    ∙ ap (λ t. text ++ t) (ap (λ t. take count bytes ++ take n t) (rest_of bytes count) ∙ take_both count n bytes)

-- all bytes, behind what was passed of them
pub whole_text : (text bytes more : List ℕ) (count : ℕ) → text ++ take count bytes ++ (slice_range bytes count (length bytes) ++ more) ≡ text ++ (bytes ++ more)
whole_text text bytes more count =
    append_assoc text (take count bytes) (slice_range bytes count (length bytes) ++ more)
    ∙ ap (λ t. text ++ t) (sym (append_assoc (take count bytes) (slice_range bytes count (length bytes)) more)
    ∙ ap (λ t. t ++ more) (ap (λ t. take count bytes ++ t) (rest_of bytes count) ∙ take-append-drop count bytes))

-- the part that is appended to the body
pub part_of : (bytes : List ℕ) (count n : ℕ) → slice_range bytes count (count + n) ≡ take n (slice_range bytes count (length bytes))
part_of bytes count n =
    let same : count + n - count ≡ n = omega arith in
    ap (λ (k : ℕ). take k (drop count bytes)) same ∙ ap (take n) (sym (rest_of bytes count))

-- the place behind a step is within the bytes
pub fits_more : (bytes : List ℕ) (count n : ℕ) → count ≤ length bytes → n ≤ length (slice_range bytes count (length bytes)) → count + n ≤ length bytes
fits_more bytes count n within fits = let l = ap length (rest_of bytes count) ∙ length-drop count bytes in omega (arith, l, within, fits)

-- a length that was stated before two steps, after them
pub still_stated : (one two three : Option ℕ) → IfSome one (λ size. two ≡ Some size) → IfSome two (λ size. three ≡ Some size) → IfSome one (λ size. three ≡ Some size)
still_stated None two three i e = tt
still_stated (Some size) two three i e = rw i at e
