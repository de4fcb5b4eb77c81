-- In a legal history the sizes are permitted, and what is kept of a release lies inside of its size.
use Rattle.std.proofs.Common.{◌≡◌, ◌<◌, ◌≤◌, ◌+◌, ℕ, Bool, true, false, List, [], ◌∷◌, length, Option, Some, None, IsSome, ◌⊎◌, inl, inr, refl, sym, ap, subst, arith}
use Rattle.std.specs.Prelude.{IsSomeAnd}
use Rattle.feed_names.specs.ReleaseName.{Name, name_eq}
use Rattle.feed_model.specs.History.{Offered, Piece, Lost, History, Answer, is_noted, is_taken, or_else, byte_at, size_of, kept, IsPassed, IsHeld}
use Rattle.feed_model.specs.Reply.{IsRightWith, IsLegalWith, IsKept, Stores, HoldsNumber, max_file}
use Rattle.feed_model.proofs.Names.{name_is}
use Rattle.feed_model.proofs.Legal.{nothing_kept}
use Rattle.feed_model.proofs.Bytes.{byte_at-within}

untaken : {A : Type 0} (a b : Answer) → is_taken a ≡ true → a ≡ b → is_taken b ≡ false → A
untaken a b taken e out = absurd (let u : is_taken a ≡ is_taken b = ap is_taken e in cc)

unnoted : {A : Type 0} (a b : Answer) → is_noted a ≡ true → a ≡ b → is_noted b ≡ false → A
unnoted a b noted e out = absurd (let u : is_noted a ≡ is_noted b = ap is_noted e in cc)

-- what is known of a piece that is kept
pub record IsTaken (h : History) (n : Name) (first : ℕ) (bytes : List ℕ) (a : Answer) : Type 0 where
  pub held : IsHeld h n
  pub within : ¬ (IsSomeAnd (size_of h n) (λ size. size < first + length bytes))
  pub new : ¬ (IsKept h n first bytes)
  pub stores : Stores h n first bytes a

-- what is known of a release that is recorded
pub record IsNoted (most : ℕ) (h : History) (n : Name) (size : ℕ) : Type 0 where
  pub small : size ≤ max_file
  pub ahead : ¬ (IsPassed h n)
  pub out : ¬ (IsHeld h n)
  pub room : ¬ (HoldsNumber h most)

held_by : (h : History) (n : Name) → ¬ (IsPassed h n) → ¬ (¬ (IsHeld h n)) → IsHeld h n
held_by h n ahead held = (by (size_of h n) refl, ahead)
  where
    by : (o : Option ℕ) → size_of h n ≡ o → IsSome o
    by None e = absurd (held (λ x. let u : false ≡ true = subst IsSome e x.0 in absurd (cc)))
    by (Some size) e = refl

pub taken_by : (most : ℕ) (h : History) (n : Name) (first : ℕ) (total : Option ℕ) (bytes : List ℕ) (a : Answer) → is_taken a ≡ true → IsRightWith most h (Piece n first total bytes) a
    → IsTaken h n first bytes a
taken_by most h n first total bytes a taken (inl x) = untaken a _ taken x.1 refl
taken_by most h n first total bytes a taken (inr (x, inl y)) = untaken a _ taken y.1 refl
taken_by most h n first total bytes a taken (inr (x, inr (y, inl z))) = untaken a _ taken z.1 refl
taken_by most h n first total bytes a taken (inr (x, inr (y, inr (z, inl w)))) = untaken a _ taken w.1 refl
taken_by most h n first total bytes a taken (inr (x, inr (y, inr (z, inr (w, inl v))))) = untaken a _ taken v.1 refl
taken_by most h n first total bytes a taken (inr (x, inr (y, inr (z, inr (w, inr (v, inl u)))))) = untaken a _ taken u.1 refl
taken_by most h n first total bytes a taken (inr (x, inr (y, inr (z, inr (w, inr (v, inr (u, inl p))))))) = untaken a _ taken p.1 refl
taken_by most h n first total bytes a taken (inr (x, inr (y, inr (z, inr (w, inr (v, inr (u, inr (p, s)))))))) = record { held = held_by h n y z; within = v; new = p; stores = s }

pub noted_by : (most : ℕ) (h : History) (n : Name) (size : ℕ) (a : Answer) → is_noted a ≡ true → IsRightWith most h (Offered n size) a → IsNoted most h n size
noted_by most h n size a noted (inl x) = unnoted a _ noted x.1 refl
noted_by most h n size a noted (inr (x, inl y)) = unnoted a _ noted y.1 refl
noted_by most h n size a noted (inr (x, inr (y, inl (z, inl w)))) = unnoted a _ noted w.1 refl
noted_by most h n size a noted (inr (x, inr (y, inl (z, inr w)))) = unnoted a _ noted w.1 refl
noted_by most h n size a noted (inr (x, inr (y, inr (z, inl w)))) = unnoted a _ noted w.1 refl
noted_by most h n size a noted (inr (x, inr (y, inr (z, inr (w, v))))) = record { small = least (grind arith); ahead = y; out = z; room = w }
  where
    least : (size ≤ max_file) ⊎ (max_file < size) → size ≤ max_file
    least (inl le) = le
    least (inr lt) = absurd (x lt)

-- before it was recorded it had no size
pub unsized : {most : ℕ} (h : History) (n : Name) (size : ℕ) → IsNoted most h n size → size_of h n ≡ None
unsized h n size noted = by (size_of h n) refl
  where
    by : (o : Option ℕ) → size_of h n ≡ o → o ≡ None
    by None e = refl
    by (Some s) e = absurd (noted.out (subst IsSome (sym e) refl, noted.ahead))

-- no size is above the limit
pub size_limit : (most : ℕ) (h : History) → IsLegalWith most h → (n : Name) (size : ℕ) → size_of h n ≡ Some size → size ≤ max_file
size_limit most [] legal n size e = absurd (cc)
size_limit most ((Offered m s, a) ∷ h) legal n size e = by (is_noted a) (name_eq m n) refl refl (size_limit most h legal.1 n size)
  where
    by : (x y : Bool) → is_noted a ≡ x → name_eq m n ≡ y → (size_of h n ≡ Some size → size ≤ max_file) → size ≤ max_file
    by true true noted same again = let u : Some s ≡ Some size = rw (noted, same) at e in let v : s ≡ size = cc in omega (arith, v, (noted_by most h m s a noted legal.0).small)
    by true false noted same again = again (rw (noted, same) at e)
    by false y noted same again = again (rw noted at e)
size_limit most ((Piece m f t b, a) ∷ h) legal n size e = size_limit most h legal.1 n size e
size_limit most ((Lost m, a) ∷ h) legal n size e = size_limit most h legal.1 n size e

-- no byte is kept past the end of a file
pub kept_inside : (most : ℕ) (h : History) → IsLegalWith most h → (n : Name) (size place : ℕ) → size_of h n ≡ Some size → IsSome (kept h n place) → place < size
kept_inside most [] legal n size place e s = absurd (cc)
kept_inside most ((Offered m x, a) ∷ h) legal n size place e s = by (is_noted a) (name_eq m n) refl refl (λ before. kept_inside most h legal.1 n size place before s)
  where
    by : (u v : Bool) → is_noted a ≡ u → name_eq m n ≡ v → (size_of h n ≡ Some size → place < size) → place < size
    by true true noted same again =
        let before : size_of h n ≡ None = subst (λ (y : Name). size_of h y ≡ None) (name_is m n same) (unsized h m x (noted_by most h m x a noted legal.0)) in
        let none : kept h n place ≡ None = nothing_kept most h legal.1 n before place in
        absurd (let w : false ≡ true = subst IsSome none s in cc)
    by true false noted same again = again (rw (noted, same) at e)
    by false v noted same again = again (rw noted at e)
kept_inside most ((Piece m f t b, a) ∷ h) legal n size place e s = by (is_taken a) (name_eq m n) refl refl (kept_inside most h legal.1 n size place e)
  where
    inside : (o : Option ℕ) → o ≡ Some size → ¬ (IsSomeAnd o (λ x. x < f + length b)) → place < f + length b → place < size
    inside None u within lt = absurd (cc)
    inside (Some x) u within lt = least (grind arith)
      where
        least : (f + length b ≤ x) ⊎ (x < f + length b) → place < size
        least (inl le) = let v : x ≡ size = cc in omega arith
        least (inr past) = absurd (within past)

    either : (o p : Option ℕ) → IsSome (or_else o p) → (IsSome o) ⊎ (IsSome p)
    either (Some x) p t = inl refl
    either None p t = inr t

    pick : (IsSome (kept h n place)) ⊎ (IsSome (byte_at f b place)) → (IsSome (kept h n place) → place < size) → ¬ (IsSomeAnd (size_of h n) (λ x. x < f + length b)) → place < size
    pick (inl old) again within = again old
    pick (inr new) again within = inside (size_of h n) e within (byte_at-within f b place new).1

    by : (u v : Bool) → is_taken a ≡ u → name_eq m n ≡ v → (IsSome (kept h n place) → place < size) → place < size
    by true true taken same again =
        let now : IsSome (or_else (kept h n place) (byte_at f b place)) = rw (taken, same) at s in
        pick (either (kept h n place) (byte_at f b place) now) again (subst (λ (y : Name). ¬ (IsSomeAnd (size_of h y) (λ x. x < f + length b))) (name_is m n same)
        (taken_by most h m f t b a taken legal.0).within)
    by true false taken same again = again (rw (taken, same) at s)
    by false v taken same again = again (rw taken at s)
kept_inside most ((Lost m, a) ∷ h) legal n size place e s = kept_inside most h legal.1 n size place e s
