-- Bytes at the places of a file.
use Rattle.std.proofs.Common.{◌≡◌, ◌<◌, ◌≤◌, ◌+◌, ◌-◌, ℕ, zero, suc, Bool, true, false, cond, nat_le, List, []}
use Rattle.std.proofs.Common.{◌∷◌, length, Option, Some, None, IsSome, slice_get, ◌⊎◌, inl, inr, refl, subst, arith}
use Rattle.std.proofs.lemmas.Bool.Decides.{nat_tests}
use Rattle.std.specs.List.{All}
use Rattle.std.proofs.lemmas.List.Elements.{All-nil, All-cons}
use Rattle.feed_model.specs.History.{or_else, byte_at}
use Rattle.feed_model.specs.Content.{Part, byte_in, end_of, ArePartsFrom}

none_or_some : (o : Option ℕ) → (o ≡ None) ⊎ IsSome o
none_or_some None = inl refl
none_or_some (Some x) = inr refl

pub some_none : {A : Type 0} (o : Option ℕ) → IsSome o → o ≡ None → A
some_none o s e = absurd (let u : false ≡ true = subst IsSome e s in cc)

pub slice_some : (xs : List ℕ) (i : ℕ) → i < length xs → IsSome (slice_get xs i)
slice_some [] i lt = absurd (omega arith)
slice_some (x ∷ xs) zero lt = refl
slice_some (x ∷ xs) (suc i) lt = slice_some xs i (omega arith)

slice_within : (xs : List ℕ) (i : ℕ) → IsSome (slice_get xs i) → i < length xs
slice_within [] i s = absurd (let u : false ≡ true = s in cc)
slice_within (x ∷ xs) zero s = omega arith
slice_within (x ∷ xs) (suc i) s = omega (arith, slice_within xs i s)

-- bytes have a place exactly if it is within them
pub byte_at-within : (first : ℕ) (bytes : List ℕ) (place : ℕ) → IsSome (byte_at first bytes place) → (first ≤ place) × (place < first + length bytes)
byte_at-within first bytes place s = by (nat_le first place) refl s
  where
    by : (b : Bool) → nat_le first place ≡ b → IsSome (cond b (slice_get bytes (place - first)) None) → (first ≤ place) × (place < first + length bytes)
    by true e t = let le : first ≤ place = grind (arith, nat_tests) in (le, omega (arith, slice_within bytes (place - first) t))
    by false e t = absurd (let u : false ≡ true = t in cc)

pub byte_at-some : (first : ℕ) (bytes : List ℕ) (place : ℕ) → first ≤ place → place < first + length bytes → IsSome (byte_at first bytes place)
byte_at-some first bytes place le lt = by (nat_le first place) refl
  where
    by : (b : Bool) → nat_le first place ≡ b → IsSome (cond b (slice_get bytes (place - first)) None)
    by true e = slice_some bytes (place - first) (omega arith)
    by false e = absurd (grind (arith, nat_tests))

or_some : (a b : Option ℕ) → IsSome a → IsSome (or_else a b)
or_some (Some x) b s = refl
or_some None b s = absurd (let u : false ≡ true = s in cc)

or_some_rest : (a b : Option ℕ) → IsSome b → IsSome (or_else a b)
or_some_rest (Some x) b s = refl
or_some_rest None b s = s

-- parts with no place from a size on end within it
pub within_by : (k size : ℕ) (qs : List Part) → ArePartsFrom k qs → ((place : ℕ) → IsSome (byte_in qs place) → place < size) → All (λ q. end_of q ≤ size) qs
within_by k size [] are below = All-nil (λ q. end_of q ≤ size)
within_by k size (q ∷ qs) are below =
    All-cons (λ x. end_of x ≤ size) q qs last (within_by (end_of q) size qs are.3 (λ place s. below place (or_some_rest (byte_at q.first q.bytes place) (byte_in qs place) s)))
  where
    last : end_of q ≤ size
    last =
        let place : ℕ = q.first + length q.bytes - 1 in
        let lt : q.first + length q.bytes - 1 < size = below (q.first + length q.bytes - 1)
        (or_some (byte_at q.first q.bytes (q.first + length q.bytes - 1)) (byte_in qs (q.first + length q.bytes - 1))
        (byte_at-some q.first q.bytes (q.first + length q.bytes - 1) (omega (arith, are.1)) (omega (arith, are.1)))) in
        omega (arith, are.1)
