-- Elements of slices.
use Rattle.std.proofs.Common.{◌≡◌, ◌<◌, ◌≤◌, ◌+◌, ◌-◌, ℕ, zero, suc, Bool, true, false, List, [], ◌∷◌}
use Rattle.std.proofs.Common.{length, take, drop, Option, Some, None, slice_get, nat_le, refl, sym, ◌∙◌, ap, arith}
use Rattle.std.proofs.lemmas.Bool.Decides.{nat_tests}
use Rattle.feed_model.specs.History.{byte_at}

pub get-take : {X : Type 0} (n : ℕ) (xs : List X) (i : ℕ) (x : X) → slice_get (take n xs) i ≡ Some x → slice_get xs i ≡ Some x
get-take zero xs i x e = absurd (cc)
get-take (suc n) [] i x e = absurd (cc)
get-take (suc n) (y ∷ ys) zero x e = e
get-take (suc n) (y ∷ ys) (suc i) x e = get-take n ys i x e

pub get-drop : {X : Type 0} (n : ℕ) (xs : List X) (i j : ℕ) → j ≡ n + i → slice_get (drop n xs) i ≡ slice_get xs j
get-drop zero xs i j e = ap (slice_get xs) (omega (arith, e))
get-drop (suc n) [] i j e = refl
get-drop (suc n) (y ∷ ys) i zero e = absurd (omega (arith, e))
get-drop (suc n) (y ∷ ys) i (suc j) e = get-drop n ys i j (omega (arith, e))

-- a byte of a slice of the file is the file's
pub byte-slice : (file : List ℕ) (first len place b : ℕ) → byte_at first (take len (drop first file)) place ≡ Some b → slice_get file place ≡ Some b
byte-slice file first len place b e = by (nat_le first place) refl
  where
    by : (t : Bool) → nat_le first place ≡ t → slice_get file place ≡ Some b
    by true t =
        let le : first ≤ place = grind (arith, nat_tests) in
        sym (get-drop first file (place - first) place (omega arith)) ∙ get-take len (drop first file) (place - first) b (rw t at e)
    by false t = absurd (let u : None ≡ Some b = rw t at e in cc)

-- lists with the same elements are one
pub same_list : {X : Type 0} (xs ys : List X) → length xs ≡ length ys → ((i : ℕ) → i < length xs → slice_get xs i ≡ slice_get ys i) → xs ≡ ys
same_list [] [] e f = refl
same_list [] (y ∷ ys) e f = absurd (omega (arith, e))
same_list (x ∷ xs) [] e f = absurd (omega (arith, e))
same_list (x ∷ xs) (y ∷ ys) e f =
    let head : Some x ≡ Some y = f 0 (omega arith) in
    let tail : xs ≡ ys = same_list xs ys (omega (arith, e)) (λ i lt. f (suc i) (omega (arith, lt))) in
    cc

pub get_some : {X : Type 0} (xs : List X) (i : ℕ) → i < length xs → (x : X) × (slice_get xs i ≡ Some x)
get_some [] i lt = absurd (omega arith)
get_some (y ∷ ys) zero lt = (y, refl)
get_some (y ∷ ys) (suc i) lt = get_some ys i (omega arith)

pub same_some : {X : Type 0} (o : Option X) (x y : X) → o ≡ Some x → o ≡ Some y → x ≡ y
same_some o x y e f = cc

pub none_some : {X Y : Type 0} (o : Option X) (x : X) → o ≡ None → o ≡ Some x → Y
none_some o x e f = absurd (cc)
