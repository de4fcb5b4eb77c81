-- Comparing two texts a byte further.
use Rattle.std.proofs.Common.{◌≡◌, ◌<◌, ℕ, zero, suc, List, [], ◌∷◌, length, take, sym, ap, ◌∙◌, arith, slice_index_or, nat_eq}
use Rattle.std.specs.Prelude.{◌&&◌}
use Rattle.std.specs.Str.{bytes_eq}
use Rattle.std.proofs.Math.Bool.{and_assoc, and-true}

-- the fronts of two texts, by one byte more
pub next_agree : (xs ys : List ℕ) (i : ℕ) → i < length xs → i < length ys
    → bytes_eq (take (suc i) xs) (take (suc i) ys) ≡ (bytes_eq (take i xs) (take i ys) && nat_eq (slice_index_or xs i 0) (slice_index_or ys i 0))
next_agree [] ys i below also = absurd (omega arith)
next_agree (x ∷ xs) [] i below also = absurd (omega arith)
next_agree (x ∷ xs) (y ∷ ys) zero below also = and-true (nat_eq x y)
next_agree (x ∷ xs) (y ∷ ys) (suc i) below also =
    ap (λ b. nat_eq x y && b) (next_agree xs ys i (omega arith) (omega arith))
    ∙ sym (and_assoc (nat_eq x y) (bytes_eq (take i xs) (take i ys)) (nat_eq (slice_index_or xs i 0) (slice_index_or ys i 0)))
