-- At most nine digits denote a number below a billion.
use Rattle.std.proofs.Common.{◌≡◌, ◌≤◌, ◌<◌, ◌^◌, ℕ, Bool, true, false, cond, List, length, Some, None, refl, sym, ap, ◌∙◌, arith}
use Rattle.std.specs.Prelude.{nat_le}
use Rattle.std.specs.Option.{option_and_then}
use Rattle.std.specs.Str.Parse.{digits_value}
use Rattle.std.proofs.lemmas.Str.Parse.{digits_value_short}
use borrow.Author.Tests.{lt-ltb}
use Rattle.feed_bytes.specs.Split.{in_64_bits, is_number, number_in_64_bits, number_of}
use Rattle.feed_bytes.proofs.Digits.{number_parts, numerals}
use Rattle.feed_answer.specs.Form.{length_of, some_length}

digits_below : (digits : List ℕ) → length digits ≤ 9 → is_number digits ≡ true → digits_value 10 digits < 1_000_000_000
digits_below digits few number = digits_value_short numerals digits 9 (number_parts digits number).1 few

-- their number fits in 64 bits
pub number-short : (digits : List ℕ) → length digits ≤ 9 → number_in_64_bits digits ≡ number_of digits
number-short digits few = go (is_number digits) refl
  where
    go : (b : Bool) → is_number digits ≡ b
        → option_and_then in_64_bits (cond b (Some (digits_value 10 digits)) None) ≡ cond b (Some (digits_value 10 digits)) None
    go false number = refl
    go true number = let below = digits_below digits few number in rw (lt-ltb (digits_value 10 digits) (2 ^ 64) (omega arith)) refl

-- and is below a billion
pub number-below : (digits : List ℕ) (n : ℕ) → length digits ≤ 9 → Some n ≡ number_in_64_bits digits → n < 1_000_000_000
number-below digits n few is = go (is_number digits) refl (is ∙ number-short digits few)
  where
    go : (b : Bool) → is_number digits ≡ b → Some n ≡ cond b (Some (digits_value 10 digits)) None → n < 1_000_000_000
    go false number is = cc
    go true number is =
        let below = digits_below digits few number in
        let same : n ≡ digits_value 10 digits = cc in
        omega arith

-- where they denote none, they are not a length
pub length_of-none : (digits : List ℕ) → length digits ≤ 9 → number_in_64_bits digits ≡ None → length_of digits ≡ None
length_of-none digits few none = go (nat_le (length digits) 9) (sym (number-short digits few) ∙ none)
  where
    go : (b : Bool) → number_of digits ≡ None → cond b (option_and_then some_length (number_of digits)) None ≡ None
    go false is = refl
    go true is = ap (option_and_then some_length) is
