-- Digits as std's parse and UTF-8 see them.
use Rattle.std.proofs.Common.{◌≡◌, ◌<◌, ◌^◌, ℕ, List, [], ◌∷◌, length, Bool, true, false, arith, refl, ap, Some, Result, Ok, Err, rules, inl, inr}
use Rattle.std.specs.Prelude.{nat_lt, ◌&&◌, IsTrue}
use Rattle.std.specs.List.{list_all}
use Rattle.std.specs.Char.{is_ascii_digit}
use Rattle.std.specs.Result.{result_ok}
use Rattle.std.specs.Str.{IsAscii, IsUtf8}
use Rattle.std.specs.Str.Parse.{digits_value, ParsesUnsigned}
use Rattle.std.proofs.lemmas.Bool.{cases_Bool}
use Rattle.std.proofs.lemmas.Str.Parse.{IsDigitsTest, IsNumeralModel, numerals_by_value, parse_digits}
use Rattle.std.proofs.lemmas.Str.{IsUtf8-from_ascii}
use Rattle.std.proofs.lemmas.Str.Ascii.{IsAscii-cons, IsAscii-nil}
use borrow.Author.Tests.{ltb-true, lt-ltb}
use Rattle.feed_bytes.specs.Split.{is_number, number_of, in_64_bits}

-- the test of digits accepts exactly the digits
pub digit_test : IsDigitsTest (λ ds. list_all is_ascii_digit ds ≡ true)
digit_test = search rules

-- numerals are what the test passes, with their values
pub numerals : IsNumeralModel (λ ds. list_all is_ascii_digit ds ≡ true) (digits_value 10)
numerals = numerals_by_value (λ ds. list_all is_ascii_digit ds ≡ true) digit_test

digits_ascii : (ds : List ℕ) → list_all is_ascii_digit ds ≡ true → IsAscii ds
digits_ascii [] all = IsAscii-nil
digits_ascii (c ∷ cs) all = let parts = digit_test.parts c cs all in IsAscii-cons c cs (omega (arith, parts.0)) (digits_ascii cs parts.1)

-- digits are a text
pub digits_utf8 : (ds : List ℕ) → list_all is_ascii_digit ds ≡ true → IsUtf8 ds
digits_utf8 ds all = IsUtf8-from_ascii ds (digits_ascii ds all)

pub both : (s t : Bool) → (s && t) ≡ true → (s ≡ true) × (t ≡ true)
both true t holds = (refl, holds)
both false t holds = absurd (cc)

-- a number is one digit or more
pub number_parts : (text : List ℕ) → IsTrue (is_number text) → (0 < length text) × (list_all is_ascii_digit text ≡ true)
number_parts text number = let parts = both _ _ number in (ltb-true 0 (length text) parts.0, parts.1)

-- one digit or more are a number
pub number_of-digits : (text : List ℕ) → list_all is_ascii_digit text ≡ true → 0 < length text → number_of text ≡ Some (digits_value 10 text)
number_of-digits text all some = rw (lt-ltb 0 (length text) some, all) refl

-- what std's parse gives of a number is its value, if that fits in 64 bits
pub result_ok-parsed : {E : Type 0} (text : List ℕ) (r : Result ℕ E) → IsTrue (is_number text)
    → ParsesUnsigned 64 10 text r → result_ok r ≡ in_64_bits (digits_value 10 text)
result_ok-parsed {E} text (Ok v) number parses =
    let value = parse_digits numerals {E = E} 64 text (Ok v) parses (number_parts text number).1 in
    rw (lt-ltb (digits_value 10 text) (2 ^ 64) value.0.1) (ap (λ n. Some n) value.1)
result_ok-parsed {E} text (Err e) number parses =
    let parts = number_parts text number in
    let refused = parse_digits numerals {E = E} 64 text (Err e) parses parts.1 in
    elim (cases_Bool (nat_lt (digits_value 10 text) (2 ^ 64))) [
      | inl fits ↦ absurd (refused (parts.0, ltb-true _ _ fits))
      | inr past ↦ rw past refl
    ]
