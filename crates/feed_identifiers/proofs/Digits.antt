-- Digits, the numbers that they form, and tests that hold.
use Rattle.std.proofs.Common.{◌≡◌, ◌≤◌, ◌<◌, ◌+◌, ◌-◌, ◌*◌, ◌^◌, ℕ, Bool, true, false, eqb, List, [], ◌∷◌, length, take, drop, get_or, Some, None}
use Rattle.std.proofs.Common.{if◌then◌else◌, refl, sym, ap, ◌∙◌, arith, rules, le-ltb, lt-ltb, take-append-drop}
use Rattle.std.specs.Char.{digit_value, is_ascii_digit}
use Rattle.std.specs.List.{list_all}
use Rattle.std.specs.Str.Parse.{digits_value, digits_value_after}
use Rattle.std.proofs.lemmas.Bool.{and_parts}
use Rattle.std.proofs.lemmas.Bool.Decides.{nat_tests}
use Rattle.std.proofs.lemmas.Int.Digits.{digits_value_more}
use Rattle.std.proofs.lemmas.List.Folds.{list_all-append}
use Rattle.std.proofs.lemmas.List.Sums.{AllPass-from_list_all}
use Rattle.std.proofs.lemmas.Str.Parse.{IsDigitsTest, IsNumeralModel, digits_value-take-le, digits_value_short, numerals_by_value}

pub test_true : (b : Bool) (x s : List ℕ) → (if b then Some x else None) ≡ Some s → b ≡ true
test_true true x s e = refl
test_true false x s e = absurd (cc)

pub value_is : (b : Bool) (x s : List ℕ) → (if b then Some x else None) ≡ Some s → s ≡ x
value_is true x s e = cc
value_is false x s e = absurd (cc)

pub record IsDigit (n : ℕ) : Type 0 where
  pub low : 48 ≤ n
  pub high : n ≤ 57

pub digit_is : (n : ℕ) → is_ascii_digit n ≡ true → IsDigit n
digit_is n e = record { low = grind (arith, nat_tests); high = grind (arith, nat_tests) }

pub digit_is_no_space : (n : ℕ) → IsDigit n → eqb n 32 ≡ false
digit_is_no_space n d = grind (arith, nat_tests)

-- a digit is determined by its value
pub same_digit : (m n : ℕ) → IsDigit m → IsDigit n → m - 48 ≡ n - 48 → m ≡ n
same_digit m n h k e = omega arith

pub worth : (n : ℕ) → IsDigit n → n - 48 ≤ 9
worth n h = omega arith

-- the value of a digit
value_of : (n : ℕ) → IsDigit n → digit_value n ≡ n - 48
value_of n d = rw (le-ltb n 48 d.low, lt-ltb n 58 (let h = d.high in omega (arith, h))) refl

-- the first of some digits, and the others
pub digits_parts : (b : ℕ) (digits : List ℕ) → list_all is_ascii_digit (b ∷ digits) ≡ true → IsDigit b × (list_all is_ascii_digit digits ≡ true)
digits_parts b digits all =
    let parts = and_parts (is_ascii_digit b) (list_all is_ascii_digit digits) all in
    (digit_is b parts.0, parts.1)

-- the digit at a place
pub digit_at : (digits : List ℕ) (i : ℕ) → list_all is_ascii_digit digits ≡ true → i < length digits → IsDigit (get_or digits i 0)
digit_at digits i all within = digit_is (get_or digits i 0) (AllPass-from_list_all is_ascii_digit digits all i 0 within)

-- the first digits and those after them
pub digits_split : (n : ℕ) (digits : List ℕ) → list_all is_ascii_digit digits ≡ true
    → (list_all is_ascii_digit (take n digits) ≡ true) × (list_all is_ascii_digit (drop n digits) ≡ true)
digits_split n digits all =
    and_parts (list_all is_ascii_digit (take n digits)) (list_all is_ascii_digit (drop n digits))
    (sym (list_all-append is_ascii_digit (take n digits) (drop n digits)) ∙ ap (list_all is_ascii_digit) (take-append-drop n digits) ∙ all)

digit_test : IsDigitsTest (λ ds. list_all is_ascii_digit ds ≡ true)
digit_test = search rules

numerals : IsNumeralModel (λ ds. list_all is_ascii_digit ds ≡ true) (digits_value 10)
numerals = numerals_by_value (λ ds. list_all is_ascii_digit ds ≡ true) digit_test

-- few digits form a small number
pub few_digits : (digits : List ℕ) (count : ℕ) → list_all is_ascii_digit digits ≡ true → length digits ≤ count → digits_value 10 digits < 10 ^ count
few_digits digits count all few = digits_value_short numerals digits count all few

-- one more digit, and a number that is within that of all digits
pub record NextDigit (digits : List ℕ) (i : ℕ) : Type 0 where
  pub digit : IsDigit (get_or digits i 0)
  pub more : digits_value 10 (take (i + 1) digits) ≡ 10 * digits_value 10 (take i digits) + (get_or digits i 0 - 48)
  pub within : digits_value 10 (take (i + 1) digits) ≤ digits_value 10 digits

pub next_digit : (digits : List ℕ) (i : ℕ) → list_all is_ascii_digit digits ≡ true → i < length digits → NextDigit digits i
next_digit digits i all within =
    let digit = digit_at digits i all within in
    let more = digits_value_more 10 digits i within in
    let value = value_of (get_or digits i 0) digit in
    record {
      digit = digit;
      more = omega (arith, more, value);
      within = digits_value-take-le 10 digits (i + 1) (omega arith);
    }

-- a number determines its last digit and those before it
split : (x y p q : ℕ) → y ≤ 9 → q ≤ 9 → 10 * x + y ≡ 10 * p + q → (x ≡ p) × (y ≡ q)
split x y p q h k e = (omega arith, omega arith)

same_list : (a b : ℕ) (s t : List ℕ) → a ≡ b → s ≡ t → a ∷ s ≡ b ∷ t
same_list a b s t e f = rw (e, f) refl

-- as many digits that form one number are the same
same_after : (m n : ℕ) (s t : List ℕ) → length s ≡ length t → list_all is_ascii_digit s ≡ true → list_all is_ascii_digit t ≡ true
    → digits_value_after 10 m s ≡ digits_value_after 10 n t → (m ≡ n) × (s ≡ t)
same_after m n [] [] long all others same = (same, refl)
same_after m n [] (b ∷ t) long all others same = absurd (omega (arith, long))
same_after m n (a ∷ s) [] long all others same = absurd (omega (arith, long))
same_after m n (a ∷ s) (b ∷ t) long all others same =
    let p = digits_parts a s all in
    let q = digits_parts b t others in
    let rest = same_after (m * 10 + digit_value a) (n * 10 + digit_value b) s t (omega (arith, long)) p.1 q.1 same in
    let step = rest.0 in
    let own = value_of a p.0 in
    let other = value_of b q.0 in
    let first = split m (a - 48) n (b - 48) (worth a p.0) (worth b q.0) (omega (arith, step, own, other)) in
    (first.0, same_list a b s t (same_digit a b p.0 q.0 first.1) rest.1)

pub same_digits : (s t : List ℕ) → length s ≡ length t → list_all is_ascii_digit s ≡ true → list_all is_ascii_digit t ≡ true
    → digits_value 10 s ≡ digits_value 10 t → s ≡ t
same_digits s t long all others same = (same_after 0 0 s t long all others same).1
