-- A text cut at the first of a byte that its front lacks.
use Rattle.std.proofs.Common.{◌≡◌, ◌<◌, ◌+◌, ℕ, List, [], ◌∷◌, ◌++◌, length, true, refl, arith, ◌∙◌, Some}
use Rattle.std.specs.Prelude.{Bool, not, ◌==◌}
use Rattle.std.specs.List.{list_all, position_or_len}
use Rattle.std.specs.Char.{is_ascii_digit}
use Rattle.std.proofs.lemmas.List.{take_at, length-append}
use Rattle.std.proofs.lemmas.List.Folds.{list_all-append}
use Rattle.std.proofs.Math.Seq.{drop-append-add}
use borrow.Author.Tests.{eq-eqb, ne_eqb, lt-ltb, not-true}
use Rattle.feed_bytes.specs.Split.{split_once}
use Rattle.feed_bytes.proofs.Digits.{both, digit_test}

-- the byte is not in the text
abbrev pub lacks : ℕ → List ℕ → Bool
lacks byte text = list_all (λ other. not (other == byte)) text

pub lacks-append : (byte : ℕ) (front back : List ℕ) → lacks byte front ≡ true → lacks byte back ≡ true → lacks byte (front ++ back) ≡ true
lacks-append byte front back here there = list_all-append (λ other. not (other == byte)) front back ∙ rw (here, there) refl

-- digits lack what comes before them in ASCII
pub lacks-digits : (byte : ℕ) (ds : List ℕ) → byte < 48 → list_all is_ascii_digit ds ≡ true → lacks byte ds ≡ true
lacks-digits byte [] below all = refl
lacks-digits byte (d ∷ ds) below all =
    let parts = digit_test.parts d ds all in
    let apart : (d ≡ byte → ⊥) = λ e. absurd (omega (arith, e, parts.0)) in
    rw (ne_eqb d byte apart, lacks-digits byte ds below parts.1) refl

position_or_len-at : (byte : ℕ) (front back : List ℕ) → lacks byte front ≡ true
    → position_or_len (λ other. other == byte) (front ++ byte ∷ back) ≡ length front
position_or_len-at byte [] back without = rw (eq-eqb byte byte refl) refl
position_or_len-at byte (x ∷ xs) back without =
    let parts = both _ _ without in
    rw (not-true (x == byte) parts.0, position_or_len-at byte xs back parts.1) (omega arith)

pub split_once-at : (byte : ℕ) (front back : List ℕ) → lacks byte front ≡ true → split_once byte (front ++ byte ∷ back) ≡ Some (front, back)
split_once-at byte front back without =
    let more : length (front ++ byte ∷ back) ≡ length front + length (byte ∷ back) = length-append front (byte ∷ back) in
    let below : length front < length (front ++ byte ∷ back) = omega arith in
    rw (
      position_or_len-at byte front back without,
      lt-ltb (length front) (length (front ++ byte ∷ back)) below,
      take_at front (byte ∷ back) (length front) refl,
      drop-append-add front (byte ∷ back) 1,
    ) refl
