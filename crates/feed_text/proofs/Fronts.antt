-- The six bytes at the front of a text that is read in pieces.
use Rattle.std.proofs.Common.{◌≡◌, ◌+◌, ◌-◌, ℕ, zero, suc, List, [], ◌∷◌, ◌++◌, length, take, refl, sym, ap, arith, ◌∙◌}
use Rattle.std.specs.Prelude.{min}
use Rattle.std.proofs.lemmas.List.{length-append, take-take}
use Rattle.feed_text.specs.Records.{has_two_marks}

take-append : (n : ℕ) (xs ys : List ℕ) → take n (xs ++ ys) ≡ take n xs ++ take (n - length xs) ys
take-append zero xs ys = let none : 0 - length xs ≡ 0 = omega arith in rw none refl
take-append (suc n) [] ys = let all : suc n - 0 ≡ suc n = omega arith in rw all refl
take-append (suc n) (x ∷ xs) ys =
    let less : suc n - suc (length xs) ≡ n - length xs = omega arith in
    rw less (ap (λ l. x ∷ l) (take-append n xs ys))

pub front_more : (text bytes front front2 : List ℕ) (known : ℕ) → known ≡ min (length text) 6 → take (min (length text) 6) front ≡ take 6 text
    → take (min (known + length bytes) 6) front2 ≡ take known front ++ take (6 - known) bytes
    → take (min (length (text ++ bytes)) 6) front2 ≡ take 6 (text ++ bytes)
front_more text bytes front front2 known is was now =
    let size : min (length (text ++ bytes)) 6 ≡ min (known + length bytes) 6 = omega (arith, is, length-append text bytes) in
    let room : 6 - known ≡ 6 - length text = omega (arith, is) in
    let kept : take known front ≡ take 6 text = ap (λ n. take n front) is ∙ was in
    ap (λ n. take n front2) size ∙ now ∙ ap (λ l. l ++ take (6 - known) bytes) kept ∙ ap (λ n. take 6 text ++ take n bytes) room
    ∙ sym (take-append 6 text bytes)

-- the first six bytes show whether it begins with two marks
pub front_marks : (text front : List ℕ) (known : ℕ) → known ≡ min (length text) 6 → take (min (length text) 6) front ≡ take 6 text
    → has_two_marks (take known front) ≡ has_two_marks text
front_marks text front known is was =
    let kept : take known front ≡ take 6 text = ap (λ n. take n front) is ∙ was in
    ap has_two_marks kept ∙ rw (take-take 6 6 text (omega arith)) refl
