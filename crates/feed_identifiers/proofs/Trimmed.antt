-- Texts that are as they are without the spaces at both ends.
use Rattle.std.proofs.Common.{◌≡◌, ◌<◌, ◌-◌, ℕ, false, eqb, List, [], ◌∷◌, length, reverse, get_or, refl, ap, ◌∙◌, arith}
use Rattle.std.proofs.lemmas.List.{get_or-reverse, reverse-reverse}
use Rattle.feed_bytes.specs.Trim.{skip_spaces, trimmed}

skip_nothing : (text : List ℕ) → eqb (get_or text 0 0) 32 ≡ false → skip_spaces text ≡ text
skip_nothing [] other = refl
skip_nothing (b ∷ text) other = rw other refl

-- a text that neither begins nor ends with a space
pub trimmed_same : (text : List ℕ) → 0 < length text → eqb (get_or text 0 0) 32 ≡ false → eqb (get_or text (length text - 1) 0) 32 ≡ false
    → trimmed text ≡ text
trimmed_same text some first last =
    let place : length text - 1 - 0 ≡ length text - 1 = omega arith in
    let end : get_or (reverse text) 0 0 ≡ get_or text (length text - 1) 0 = get_or-reverse text 0 0 some ∙ ap (λ i. get_or text i 0) place in
    ap (λ t. reverse (skip_spaces (reverse t))) (skip_nothing text first)
    ∙ ap reverse (skip_nothing (reverse text) (ap (λ b. eqb b 32) end ∙ last))
    ∙ reverse-reverse text
