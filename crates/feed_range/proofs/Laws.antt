-- The written values parse as what was written.
use Rattle.std.proofs.Common.{◌≡◌, ◌≤◌, ◌<◌, ◌-◌, ◌^◌, ℕ, List, [], ◌∷◌, ◌++◌, length, true}
use Rattle.std.proofs.Common.{false, Option, Some, None, refl, ap, arith, ◌∙◌, min, codes, append_assoc, append-nil}
use Rattle.std.specs.List.{list_all}
use Rattle.std.specs.Char.{is_ascii_digit}
use Rattle.std.specs.Fmt.{decimal}
use Rattle.std.proofs.lemmas.Fmt.{decimal_is_IsNumeral}
use Rattle.std.proofs.Math.Nat.{min-eq_left}
use borrow.Author.Tests.{ne_eqb, lt-ltb, le-ltb, lt-leb}
use Rattle.feed_bytes.specs.Split.{dash, slash, strip_prefix, split_once, number_of, capped_number}
use Rattle.feed_range.specs.RangeAsk.{ask_of, ask_text}
use Rattle.feed_range.specs.Content.{is_star, total_of, part_of, range_of, content_range, content_range_text, range_in_order, FitsIn64Bits}
use Rattle.feed_range.specs.declared.range_ask.RangeAsk.TheVariants as ask
use Rattle.feed_range.specs.declared.content.ContentRange.{ContentRange}
use Rattle.feed_range.specs.declared.content.ContentRange.TheVariants.{Part, Unsatisfied}
use Rattle.feed_bytes.proofs.Digits.{digit_test, numerals, number_of-digits}
use Rattle.feed_bytes.proofs.Cuts.{lacks, lacks-append, lacks-digits, split_once-at}

some-decimal : (n : ℕ) → n < 2 ^ 64 → 0 < length (decimal n)
some-decimal n small = (decimal_is_IsNumeral n small).0.0

all-decimal : (n : ℕ) → n < 2 ^ 64 → list_all is_ascii_digit (decimal n) ≡ true
all-decimal n small = numerals.from (decimal n) (decimal_is_IsNumeral n small).0.1

-- a number that is written is read
number_of-decimal : (n : ℕ) → n < 2 ^ 64 → number_of (decimal n) ≡ Some n
number_of-decimal n small =
    number_of-digits (decimal n) (all-decimal n small) (some-decimal n small)
    ∙ ap (λ k. Some k) (decimal_is_IsNumeral n small).1

capped_number-small : (n : ℕ) → n < 2 ^ 64 → capped_number n ≡ n
capped_number-small n small = let within : n ≤ 2 ^ 64 - 1 = omega arith in min-eq_left within

-- two numbers with a dash between them
abbrev places : ℕ → ℕ → List ℕ
places first last = decimal first ++ dash ∷ decimal last

-- the same, as the writers put it together
places-joined : (first last : ℕ) → (decimal first ++ codes "-") ++ decimal last ≡ places first last
places-joined first last = append_assoc (decimal first) (codes "-") (decimal last)

split_once-places : (first last : ℕ) → first < 2 ^ 64 → split_once dash (places first last) ≡ Some (decimal first, decimal last)
split_once-places first last low =
    split_once-at dash (decimal first) (decimal last) (lacks-digits dash (decimal first) (omega arith) (all-decimal first low))

-- what `write_ask` writes asks for these places, as far as the file has them
pub ask_of-ask_text : (first last size : ℕ) → first ≤ last → last < 2 ^ 64 → first < size
    → ask_of (ask_text first last) size ≡ ask.Part first (min last (size - 1))
ask_of-ask_text first last size ordered small inside =
    let low : first < 2 ^ 64 = omega arith in
    rw (
      places-joined first last,
      split_once-places first last low,
      number_of-decimal first low,
      number_of-decimal last small,
      capped_number-small first low,
      capped_number-small last small,
      le-ltb last first ordered,
      lt-leb size first inside,
    ) refl

lacks-places : (first last : ℕ) → first < 2 ^ 64 → last < 2 ^ 64 → lacks slash (places first last) ≡ true
lacks-places first last low high =
    let front = lacks-digits slash (decimal first) (omega arith) (all-decimal first low) in
    let back = lacks-digits slash (decimal last) (omega arith) (all-decimal last high) in
    lacks-append slash (decimal first) (dash ∷ decimal last) front back

is_star-digits : (ds more : List ℕ) → list_all is_ascii_digit ds ≡ true → 0 < length ds → is_star (ds ++ more) ≡ false
is_star-digits [] more all some = absurd (omega arith)
is_star-digits (d ∷ ds) more all some =
    let parts = digit_test.parts d ds all in
    let apart : (d ≡ 42 → ⊥) = λ e. absurd (omega (arith, e, parts.0)) in
    rw (ne_eqb d 42 apart) refl

total_of-decimal : (n : ℕ) → n < 2 ^ 64 → total_of (decimal n) ≡ Some (Some n)
total_of-decimal n small =
    let other = rw append-nil at (is_star-digits (decimal n) [] (all-decimal n small) (some-decimal n small)) in
    rw (other, number_of-decimal n small) refl

range_of-places : (first last : ℕ) (text : List ℕ) (total : Option ℕ) → first < 2 ^ 64 → last < 2 ^ 64
    → total_of text ≡ Some total → range_of (places first last) text ≡ part_of (Some first) (Some last) (Some total)
range_of-places first last text total low high is =
    rw (
      is_star-digits (decimal first) (dash ∷ decimal last) (all-decimal first low) (some-decimal first low),
      split_once-places first last low,
      number_of-decimal first low,
      number_of-decimal last high,
      is,
    ) refl

-- the texts around the slash decide
content_range-cut : (text front back : List ℕ) → strip_prefix (codes "bytes ") text ≡ Some (front ++ slash ∷ back)
    → lacks slash front ≡ true → content_range text ≡ range_of front back
content_range-cut text front back stripped without = rw (stripped, split_once-at slash front back without) refl

-- what `write_content_range` writes is read again, as far as its numbers are in order
pub content_range-text : (range : ContentRange) → FitsIn64Bits range → content_range (content_range_text range) ≡ range_in_order range
content_range-text (Part first last (Some total)) fits =
    let joined : (decimal first ++ codes "-") ++ decimal last ++ codes "/" ++ decimal total ≡ places first last ++ slash ∷ decimal total =
    append_assoc ((decimal first ++ codes "-") ++ decimal last) (codes "/") (decimal total)
    ∙ ap (λ text. text ++ slash ∷ decimal total) (places-joined first last) in
    content_range-cut (content_range_text (Part first last (Some total))) (places first last) (decimal total)
    (ap (λ text. Some text) joined) (lacks-places first last fits.0 fits.1)
    ∙ range_of-places first last (decimal total) (Some total) fits.0 fits.1 (total_of-decimal total fits.2)
    ∙ rw (lt-ltb first (2 ^ 64) fits.0, lt-ltb last (2 ^ 64) fits.1, lt-ltb total (2 ^ 64) fits.2) refl
content_range-text (Part first last None) fits =
    content_range-cut (content_range_text (Part first last None)) (places first last) (codes "*")
    (ap (λ text. Some (text ++ codes "/*")) (places-joined first last)) (lacks-places first last fits.0 fits.1)
    ∙ range_of-places first last (codes "*") None fits.0 fits.1 refl
    ∙ rw (lt-ltb first (2 ^ 64) fits.0, lt-ltb last (2 ^ 64) fits.1) refl
content_range-text (Unsatisfied total) fits =
    content_range-cut (content_range_text (Unsatisfied total)) (codes "*") (decimal total) refl refl
    ∙ rw (number_of-decimal total fits, lt-ltb total (2 ^ 64) fits) refl
