-- A buffer that is filled from the front by reads.
use Rattle.std.proofs.Common.{◌≡◌, ◌≤◌, ◌+◌, ◌-◌, ℕ, zero, suc, List, [], ◌∷◌, ◌++◌, length, take, drop, Option, refl, sym, ap}
use Rattle.std.proofs.Common.{arith, ◌∙◌, zero-add, suc-add}
use Rattle.std.specs.Io.KnownBytes.{Consumes}
use Rattle.std.proofs.Math.Seq.{take-append-add}
use Rattle.std.proofs.lemmas.List.{length-append, take-append-le, length-take-le}
use borrow.Rule.Slice.PartMut.{put_mid, post_of}
use Rattle.std.proofs.KnownBytes.{Consumes-trans}

nil_take : (n : ℕ) → take {A = ℕ} n [] ≡ []
nil_take zero = refl
nil_take (suc n) = refl

-- a front, and the front of what follows it
pub take_both : (m n : ℕ) (xs : List ℕ) → take m xs ++ take n (drop m xs) ≡ take (m + n) xs
take_both zero n xs = rw zero-add refl
take_both (suc m) n [] = rw suc-add (nil_take n)
take_both (suc m) n (x ∷ xs) = rw suc-add (ap (λ t. x ∷ t) (take_both m n xs))

pub take-behind : (p q : List ℕ) (a n : ℕ) → length p ≡ a → take (a + n) (p ++ q) ≡ p ++ take n q
take-behind p q a n e = rw (← e) (take-append-add p q n)

-- the front grows by what was read behind it
pub take-put_mid : (a k n : ℕ) (xs ys : List ℕ) → a ≤ length xs → n ≤ length ys
    → take (a + n) (put_mid a k xs ys) ≡ take a xs ++ take n ys
take-put_mid a k n xs ys within fits =
    let front : length (take a xs) ≡ a = length-take-le a xs within in
    let kept : take n (ys ++ post_of a k xs) ≡ take n ys = take-append-le n ys (post_of a k xs) fits in
    take-behind (take a xs) (ys ++ post_of a k xs) a n front ∙ ap (λ t. take a xs ++ t) kept

-- and stays within the buffer
pub put_mid_fits : (a k n : ℕ) (xs ys : List ℕ) → a ≤ length xs → n ≤ length ys → a + n ≤ length (put_mid a k xs ys)
put_mid_fits a k n xs ys within fits =
    let front : length (take a xs) ≡ a = length-take-le a xs within in
    let whole : length (put_mid a k xs ys) ≡ length (take a xs) + (length ys + length (post_of a k xs)) = simp length-append in
    omega arith

-- a read behind the bytes that were taken takes more of them
pub read_more : (old mid new : Option (List ℕ)) (a k n : ℕ) (xs ys : List ℕ) → a ≤ length xs → n ≤ length ys
    → Consumes old mid (take a xs) → Consumes mid new (take n ys) → Consumes old new (take (a + n) (put_mid a k xs ys))
read_more old mid new a k n xs ys within fits first more =
    rw (take-put_mid a k n xs ys within fits) (Consumes-trans old mid new (take a xs) (take n ys) first more)

-- the bytes that were read are the front of all that may be
pub front_of : (bytes : ℕ) (part rest : List ℕ) → length part ≤ bytes → take bytes (part ++ rest) ≡ part ++ take (bytes - length part) rest
front_of bytes part rest fits =
    let whole : length part + (bytes - length part) ≡ bytes = omega arith in
    ap (λ n. take n (part ++ rest)) (sym whole) ∙ take-behind part rest (length part) (bytes - length part) refl
