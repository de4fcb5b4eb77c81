-- Texts without the spaces at their ends.
use Rattle.std.proofs.Common.{◌≡◌, ◌≤◌, ◌∙◌, ℕ, eqb, List, [], ◌∷◌, ◌++◌, length, reverse, refl, sym, ap, arith, inl, inr}
use Rattle.std.proofs.lemmas.Bool.{cases_Bool}
use Rattle.std.proofs.lemmas.List.{reverse-append, reverse-reverse}
use Rattle.feed_bytes.specs.Trim.{skip_spaces, trimmed, trimmed_back}

pub skip-twice : (text : List ℕ) → skip_spaces (skip_spaces text) ≡ skip_spaces text
skip-twice [] = refl
skip-twice (b ∷ text) = elim (cases_Bool (eqb b 32)) [
  | inl y ↦ rw y (skip-twice text)
  | inr n ↦ rw n (rw n refl)
]

skip-within : (text : List ℕ) → length (skip_spaces text) ≤ length text
skip-within [] = omega arith
skip-within (b ∷ text) = elim (cases_Bool (eqb b 32)) [
  | inl y ↦ rw y (omega (arith, skip-within text))
  | inr n ↦ rw n (omega arith)
]

-- what is left out at the front
skip-split : (text : List ℕ) → (front : List ℕ) × (text ≡ front ++ skip_spaces text)
skip-split [] = ([], refl)
skip-split (b ∷ text) = elim (cases_Bool (eqb b 32)) [
  | inl y ↦ let (front, whole) = skip-split text in (b ∷ front, rw y (ap (λ (l : List ℕ). b ∷ l) whole))
  | inr n ↦ ([], rw n refl)
]

-- what is left out at the back
pub back-split : (text : List ℕ) → (back : List ℕ) × (text ≡ trimmed_back text ++ back)
back-split text =
    let (front, whole) = skip-split (reverse text) in
    (reverse front, sym (reverse-reverse text) ∙ ap reverse whole ∙ reverse-append front (skip_spaces (reverse text)))

back-twice : (text : List ℕ) → trimmed_back (trimmed_back text) ≡ trimmed_back text
back-twice text = ap (λ t. reverse (skip_spaces t)) (reverse-reverse (skip_spaces (reverse text))) ∙ ap reverse (skip-twice (reverse text))

-- a front of a text that begins with no space
pub skip-front : (front back : List ℕ) → skip_spaces (front ++ back) ≡ front ++ back → skip_spaces front ≡ front
skip-front [] back same = refl
skip-front (b ∷ front) back same = elim (cases_Bool (eqb b 32)) [
  | inl y ↦ absurd (omega (arith, skip-within (front ++ back), ap length (rw y at same)))
  | inr n ↦ rw n refl
]

pub trimmed_twice : (text : List ℕ) → trimmed (trimmed text) ≡ trimmed text
trimmed_twice text =
    let own = skip_spaces text in
    let (back, whole) = back-split own in
    let same : skip_spaces (trimmed_back own ++ back) ≡ trimmed_back own ++ back = sym (ap skip_spaces whole) ∙ skip-twice text ∙ whole in
    ap trimmed_back (skip-front (trimmed_back own) back same) ∙ back-twice own
