-- A release without a size has no stored bytes.
use Rattle.std.proofs.Common.{◌≡◌, ℕ, Bool, true, false, List, [], ◌∷◌, Option, Some, None, IsSome, inl, inr, refl, sym, ap, subst}
use Rattle.feed_names.specs.ReleaseName.{Name, name_eq}
use Rattle.feed_model.specs.History.{Offered, Piece, Lost, History, Answer, is_noted, is_taken, size_of, kept}
use Rattle.feed_model.specs.Reply.{IsRightWith, IsLegalWith}
use Rattle.feed_model.proofs.Names.{name_is}

-- a piece is kept only of a release that has a size
taken_held : (most : ℕ) (h : History) (n : Name) (f : ℕ) (t : Option ℕ) (b : List ℕ) (r : Answer) → is_taken r ≡ true → IsRightWith most h (Piece n f t b) r → IsSome (size_of h n)
taken_held most h n f t b r taken (inl x) = absurd (let e : is_taken r ≡ false = ap is_taken x.1 in cc)
taken_held most h n f t b r taken (inr (x, inl y)) = absurd (let e : is_taken r ≡ false = ap is_taken y.1 in cc)
taken_held most h n f t b r taken (inr (x, inr (y, inl z))) = absurd (let e : is_taken r ≡ false = ap is_taken z.1 in cc)
taken_held most h n f t b r taken (inr (x, inr (y, inr (z, inl w)))) = absurd (let e : is_taken r ≡ false = ap is_taken w.1 in cc)
taken_held most h n f t b r taken (inr (x, inr (y, inr (z, inr (w, inl v))))) = absurd (let e : is_taken r ≡ false = ap is_taken v.1 in cc)
taken_held most h n f t b r taken (inr (x, inr (y, inr (z, inr (w, inr (v, inl u)))))) = absurd (let e : is_taken r ≡ false = ap is_taken u.1 in cc)
taken_held most h n f t b r taken (inr (x, inr (y, inr (z, inr (w, inr (v, inr (u, inl p))))))) = absurd (let e : is_taken r ≡ false = ap is_taken p.1 in cc)
taken_held most h n f t b r taken (inr (x, inr (y, inr (z, inr (w, inr (v, inr (u, inr (p, inl q)))))))) = subst IsSome (sym q.1) refl
taken_held most h n f t b r taken (inr (x, inr (y, inr (z, inr (w, inr (v, inr (u, inr (p, inr (inl e))))))))) = absurd (let o : is_taken r ≡ false = ap is_taken e in cc)
taken_held most h n f t b r taken (inr (x, inr (y, inr (z, inr (w, inr (v, inr (u, inr (p, inr (inr e))))))))) = absurd (let o : is_taken r ≡ false = ap is_taken e in cc)

pub nothing_kept : (most : ℕ) (h : History) → IsLegalWith most h → (n : Name) → size_of h n ≡ None → (place : ℕ) → kept h n place ≡ None
nothing_kept most [] legal n e place = refl
nothing_kept most ((Offered m s, r) ∷ h) legal n e place = by (is_noted r) (name_eq m n) refl refl (λ u. nothing_kept most h legal.1 n u place)
  where
    by : (a b : Bool) → is_noted r ≡ a → name_eq m n ≡ b → (size_of h n ≡ None → kept h n place ≡ None) → kept h n place ≡ None
    by true true s t again = absurd (let u : Some _ ≡ None = rw (s, t) at e in cc)
    by true false s t again = again (rw (s, t) at e)
    by false b s t again = again (rw s at e)
nothing_kept most ((Piece m f t b, r) ∷ h) legal n e place = by (is_taken r) (name_eq m n) refl refl (nothing_kept most h legal.1 n e place)
  where
    by : (a d : Bool) → is_taken r ≡ a → name_eq m n ≡ d → kept h n place ≡ None → kept ((Piece m f t b, r) ∷ h) n place ≡ None
    by true true s u again =
        let some : IsSome (size_of h n) = subst (λ (x : Name). IsSome (size_of h x)) (name_is m n u) (taken_held most h m f t b r s legal.0) in
        absurd (let v : false ≡ true = subst IsSome e some in cc)
    by true false s u again = rw (s, u) again
    by false d s u again = rw s again
nothing_kept most ((Lost m, r) ∷ h) legal n e place = nothing_kept most h legal.1 n e place
