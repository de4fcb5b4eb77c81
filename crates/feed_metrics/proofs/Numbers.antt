-- The digits of a number, and a time in seconds: each byte is a digit or the point, so a label has it as it is.
use Rattle.std.proofs.Common.{◌≡◌, ◌<◌, ◌+◌, ◌/◌, ◌%◌, ℕ, zero, suc, List, [], ◌∷◌, ◌++◌, Bool, true, false, refl, sym, inl, inr, arith}
use Rattle.std.specs.Prelude.{◌==◌, ◌&&◌}
use Rattle.std.specs.List.{list_all}
use Rattle.std.specs.Fmt.{decimal, digits, digits_onto, digit_glyph}
use Rattle.std.proofs.lemmas.Bool.{cases_Bool}
use Rattle.std.proofs.lemmas.Bool.Decides.{nat_tests}
use Rattle.feed_metrics.specs.Labels.{label_byte, label_text}
use Rattle.feed_metrics.specs.Seconds.{seconds_text, six_digits}
use Rattle.feed_metrics.specs.ExpositionReader.{is_number_byte}

digit_number : (d : ℕ) → d < 10 → is_number_byte (48 + d) ≡ true
digit_number d small = grind (arith, nat_tests)

glyph_is : (d : ℕ) → d < 10 → digit_glyph false d ≡ 48 + d
glyph_is d small = grind (arith, nat_tests)

glyph_number : (n : ℕ) → is_number_byte (digit_glyph false (n % 10)) ≡ true
glyph_number n = let small : n % 10 < 10 = omega arith in rw (glyph_is (n % 10) small) (digit_number (n % 10) small)

pub front : (s t : Bool) → s ≡ true → t ≡ true → (s && t) ≡ true
front true t one two = two
front false t one two = one

onto_number : (k n : ℕ) (acc : List ℕ) → list_all is_number_byte acc ≡ true → list_all is_number_byte (digits_onto k 10 false n acc) ≡ true
onto_number zero n acc all = all
onto_number (suc k) n acc all =
    let more : list_all is_number_byte (digit_glyph false (n % 10) ∷ acc) ≡ true = front (is_number_byte (digit_glyph false (n % 10))) (list_all is_number_byte acc) (glyph_number n) all in
    elim (cases_Bool (n / 10 == 0)) [
      | inl e ↦ rw e more
      | inr e ↦ rw e (onto_number k (n / 10) (digit_glyph false (n % 10) ∷ acc) more)
    ]

pub decimal_number : (n : ℕ) → list_all is_number_byte (decimal n) ≡ true
unfolding digits
decimal_number n = onto_number 64 n [] refl

pub all_append : (test : ℕ → Bool) (xs ys : List ℕ) → list_all test xs ≡ true → list_all test ys ≡ true → list_all test (xs ++ ys) ≡ true
all_append test [] ys one two = two
all_append test (x ∷ xs) ys one two =
    elim (cases_Bool (test x)) [
      | inl e ↦ rw e (all_append test xs ys (rw e at one) two)
      | inr e ↦ absurd (cc)
    ]

pub seconds_number : (n : ℕ) → list_all is_number_byte (seconds_text n) ≡ true
seconds_number n =
    all_append is_number_byte (decimal (n / 1000000)) (46 ∷ six_digits n) (decimal_number (n / 1000000))
    (front (is_number_byte 46) _ refl
    (front _ _ (digit_number (n / 100000 % 10) (omega arith))
    (front _ _ (digit_number (n / 10000 % 10) (omega arith))
    (front _ _ (digit_number (n / 1000 % 10) (omega arith))
    (front _ _ (digit_number (n / 100 % 10) (omega arith))
    (front _ _ (digit_number (n / 10 % 10) (omega arith))
    (front _ _ (digit_number (n % 10) (omega arith)) refl)))))))

byte_plain : (b : ℕ) → is_number_byte b ≡ true → label_byte b ≡ b ∷ []
byte_plain b number = grind (arith, nat_tests)

pub both : (s t : Bool) → (s && t) ≡ true → (s ≡ true) × (t ≡ true)
both true t holds = (refl, holds)
both false t holds = absurd (cc)

pub number_plain : (text : List ℕ) → list_all is_number_byte text ≡ true → label_text text ≡ text
number_plain [] all = refl
number_plain (b ∷ text) all =
    let parts = both (is_number_byte b) (list_all is_number_byte text) all in
    rw (byte_plain b parts.0, number_plain text parts.1) refl

pub bound_plain : (n : ℕ) → seconds_text n ≡ label_text (seconds_text n)
bound_plain n = sym (number_plain (seconds_text n) (seconds_number n))
