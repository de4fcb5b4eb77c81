-- A text is cut at the first place of a byte.
use Rattle.std.proofs.Common.{◌≡◌, ◌<◌, ◌+◌, ◌-◌, ℕ, List, ◌∷◌, ◌++◌, length, take, drop, get_or, Some, false, sym, ap, ◌∙◌, arith, drop-cons, suc, add-one}
use Rattle.std.specs.Prelude.{◌==◌, position, All}
use Rattle.std.specs.List.{slice_split}
use Rattle.std.proofs.lemmas.List.{take-append-drop, length-drop, length-take, get_or-take, take_all}
use Rattle.std.proofs.lemmas.List.Quantifiers.{position-Some}
use Rattle.std.proofs.lemmas.List.Splits.{slice_split_at, slice_split_none}
use Rattle.feed_bytes.specs.Parts.{IsFirstPart, IsOnePart}

before : (byte : ℕ) (text : List ℕ) (k : ℕ) → position (λ other. other == byte) text ≡ Some k → All (λ other. (other == byte) ≡ false) (take k text)
before byte text k found = λ j d within.
    let below : j < k = omega (arith, within, length-take k text) in
    rw (get_or-take k text j d below) ((position-Some (λ other. other == byte) text k d found).2 j below)

pub cut_there : (byte : ℕ) (text : List ℕ) (k : ℕ) → position (λ other. other == byte) text ≡ Some k → IsFirstPart byte text (take k text) (drop (k + 1) text)
cut_there byte text k found =
    let at = position-Some (λ other. other == byte) text k 0 found in
    let whole : text ≡ take k text ++ get_or text k 0 ∷ drop (suc k) text =
    sym (take-append-drop k text) ∙ ap (λ t. take k text ++ t) (drop-cons text k 0 at.0) in
    rw (add-one k) (record {
      parts = ap (slice_split (λ other. other == byte)) whole
          ∙ slice_split_at (λ other. other == byte) (take k text) (get_or text k 0) (drop (suc k) text) (before byte text k found) at.1;
      less = omega (arith, at.0, length-drop (suc k) text);
    })

pub cut_nowhere : (byte : ℕ) (text : List ℕ) → All (λ other. (other == byte) ≡ false) text → IsOnePart byte text
cut_nowhere byte text none = slice_split_none (λ other. other == byte) text none

-- as slices give the two parts
pub cut_sliced : (byte : ℕ) (text : List ℕ) (k : ℕ) → position (λ other. other == byte) text ≡ Some k
    → IsFirstPart byte text (take k text) (take (length text - (k + 1)) (drop (k + 1) text))
cut_sliced byte text k found =
    rw (take_all (length text - (k + 1)) (drop (k + 1) text) (omega (arith, length-drop (k + 1) text))) (cut_there byte text k found)
