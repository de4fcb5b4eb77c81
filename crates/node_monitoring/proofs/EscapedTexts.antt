-- An escaped text is visible and has no quote, and decodes to the text.
use Rattle.std.proofs.Common.{◌≡◌, ◌<◌, ◌+◌, ◌*◌, ◌/◌, ◌%◌, ℕ, List, [], ◌∷◌, ◌++◌, true, false, Some, refl, ap, ◌∙◌, inl, inr, arith, All}
use Rattle.std.specs.Prelude.{◌==◌, nat_lt}
use Rattle.std.specs.List.{AllByRecursion}
use Rattle.std.proofs.lemmas.Bool.{cases_Bool}
use Rattle.std.proofs.lemmas.Bool.Decides.{nat_tests}
use Rattle.std.proofs.lemmas.List.Elements.{All-from_recursion, All-append, recursion_from_All}
use Rattle.node_monitoring.specs.LogEscapes.{upper_digit, hex_value, is_plain, is_visible, escape_byte, escaped, with_byte, undone, unescaped}
use Rattle.node_monitoring.specs.LogEscapes as escapes
use Rattle.node_monitoring.specs.LogLines.{IsByte}

abbrev Visible : ℕ → Type 0
Visible b = is_visible b ≡ true

plain_visible : (b : ℕ) → is_plain b ≡ true → is_visible b ≡ true
plain_visible b plain = grind (arith, nat_tests)

plain_unmarked : (b : ℕ) → is_plain b ≡ true → (b == 92) ≡ false
plain_unmarked b plain = grind (arith, nat_tests)

digit_visible : (n : ℕ) → n < 16 → is_visible (upper_digit n) ≡ true
digit_visible n small = elim (cases_Bool (nat_lt n 10)) [
  | inl low ↦ rw low (grind (arith, nat_tests))
  | inr high ↦ rw high (grind (arith, nat_tests))
]

digit_value : (n : ℕ) → n < 16 → hex_value (upper_digit n) ≡ n
digit_value n small = elim (cases_Bool (nat_lt n 10)) [
  | inl low ↦ rw low (grind (arith, nat_tests))
  | inr high ↦ rw high (grind (arith, nat_tests))
]

-- one byte is visible
byte_visible : (b : ℕ) → b < 256 → All Visible (escape_byte b)
byte_visible b small = elim (cases_Bool (is_plain b)) [
  | inl plain ↦ rw plain (All-from_recursion Visible (b ∷ []) (plain_visible b plain, tt))
  | inr other ↦ rw other (All-from_recursion Visible (92 ∷ 120 ∷ upper_digit (b / 16) ∷ upper_digit (b % 16) ∷ [])
      (refl, (refl, (digit_visible (b / 16) (omega arith), (digit_visible (b % 16) (omega arith), tt)))))
]

visible_all : (text : List ℕ) → AllByRecursion IsByte text → All Visible (escaped text)
visible_all [] small = All-from_recursion Visible [] tt
visible_all (b ∷ text) small = All-append Visible (escape_byte b) (escaped text) (byte_visible b small.0) (visible_all text small.1)

pub visible : (text : List ℕ) → All IsByte text → All (λ b. is_visible b ≡ true) (escaped text)
visible text small = visible_all text (recursion_from_All IsByte text small)

two_digits : (b : ℕ) → b < 256 → 16 * hex_value (upper_digit (b / 16)) + hex_value (upper_digit (b % 16)) ≡ b
two_digits b small = rw (digit_value (b / 16) (omega arith), digit_value (b % 16) (omega arith)) (omega arith)

-- one byte is undone
undone_byte : (b : ℕ) (rest : List ℕ) → b < 256 → undone escapes.outside (escape_byte b ++ rest) ≡ with_byte b (undone escapes.outside rest)
undone_byte b rest small = elim (cases_Bool (is_plain b)) [
  | inl plain ↦ rw (plain, plain_unmarked b plain) refl
  | inr other ↦ rw other (ap (λ c. with_byte c (undone escapes.outside rest)) (two_digits b small))
]

undone_all : (text : List ℕ) → AllByRecursion IsByte text → unescaped (escaped text) ≡ Some text
undone_all [] small = refl
undone_all (b ∷ text) small = undone_byte b (escaped text) small.0 ∙ ap (with_byte b) (undone_all text small.1)

pub reads_back : (text : List ℕ) → All IsByte text → unescaped (escaped text) ≡ Some text
reads_back text small = undone_all text (recursion_from_All IsByte text small)
