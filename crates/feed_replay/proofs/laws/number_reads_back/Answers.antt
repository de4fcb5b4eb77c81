use Rattle.std.proofs.Common.{◌≡◌, ◌<◌, ◌^◌, ℕ, length, true, arith, rules, refl}
use Rattle.std.specs.List.{list_all}
use Rattle.std.specs.Char.{is_ascii_digit}
use Rattle.std.specs.Fmt.{decimal}
use Rattle.std.proofs.lemmas.Fmt.{decimal_is_IsNumeral, length-decimal-le}
use Rattle.std.proofs.lemmas.Str.Parse.{IsDigitsTest, numerals_by_value}
use borrow.Author.Tests.{lt-ltb, le-leb}
use Rattle.feed_replay.proofs.laws.number_reads_back.Goals as goal

-- a number is written in digits alone
all_digits : (number : ℕ) → number < 2 ^ 64 → list_all is_ascii_digit (decimal number) ≡ true
all_digits number small =
    let test : IsDigitsTest (λ ds. list_all is_ascii_digit ds ≡ true) = search rules in
    (numerals_by_value (λ ds. list_all is_ascii_digit ds ≡ true) test).from (decimal number) (decimal_is_IsNumeral number small).0.1

pub returns : goal.returns
returns c number small =
    let numeral = decimal_is_IsNumeral number small in
    let few = le-leb (length (decimal number)) 20 (length-decimal-le 20 number (omega arith) (omega arith) small) in
    rw (few, lt-ltb 0 (length (decimal number)) numeral.0.0, all_digits number small, numeral.1, lt-ltb number (2 ^ 64) small) refl
