-- Roman numerals, as they are written today: a digit in each place, from the thousands to the ones.
use Rattle.std.specs.Prelude.{ℕ, Bool, ◌+◌, ◌||◌, ◌==◌, List, [], ◌∷◌, Option, Some, None, drop, if◌then◌else◌, codes}
use Rattle.feed_answer.specs.Pairs.{is_empty}
use Rattle.feed_openurl.specs.Fronts.{front_len}
use Rattle.feed_openurl.specs.Keys.{after_prefix, is_name}
use Rattle.feed_openurl.specs.Texts.{volume_text_of}

-- a digit at the front of a text, and what follows it
pub record Place : Type 0 where
  pub digit : ℕ
  pub rest : List ℕ

abbrev place : ℕ → List ℕ → Place
place digit rest = record { digit = digit; rest = rest }

-- a digit if its signs are there, or else another one
abbrev pub if_there : ℕ → Option (List ℕ) → Place → Place
if_there digit (Some rest) other = place digit rest
if_there digit None other = other

-- up to three signs of one
abbrev pub ones : (three two one : List ℕ) → List ℕ → Place
ones three two one text =
    if_there 3 (after_prefix three text) (if_there 2 (after_prefix two text) (if_there 1 (after_prefix one text) (place 0 text)))

-- five, and as many as follow
abbrev pub five_more : Place → Place
five_more found = place (5 + found.digit) found.rest

abbrev pub five_and : Option (List ℕ) → (three two one : List ℕ) → Place → Place
five_and (Some rest) three two one other = five_more (ones three two one rest)
five_and None three two one other = other

-- a digit below nine, by its signs of four and five, and of three, two and one
abbrev pub below_nine : (four five three two one : List ℕ) → List ℕ → Place
below_nine four five three two one text =
    if_there 4 (after_prefix four text) (five_and (after_prefix five text) three two one (ones three two one text))

abbrev pub thousands : List ℕ → Place
thousands text = ones (codes "MMM") (codes "MM") (codes "M") text

abbrev pub hundreds : List ℕ → Place
hundreds text = if_there 9 (after_prefix (codes "CM") text) (below_nine (codes "CD") (codes "D") (codes "CCC") (codes "CC") (codes "C") text)

abbrev pub tens : List ℕ → Place
tens text = if_there 9 (after_prefix (codes "XC") text) (below_nine (codes "XL") (codes "L") (codes "XXX") (codes "XX") (codes "X") text)

abbrev pub units : List ℕ → Place
units text = if_there 9 (after_prefix (codes "IX") text) (below_nine (codes "IV") (codes "V") (codes "III") (codes "II") (codes "I") text)

-- a single C, D, L or M names a section, as in "J. Phys. C"
abbrev pub is_section : List ℕ → Bool
is_section text =
    is_name text (codes "C") || is_name text (codes "D") || is_name text (codes "L") || is_name text (codes "M")

abbrev pub is_zero : ℕ → Bool
is_zero b = b == 48

-- decimal digits without zeros at their front
abbrev pub without_zeros : List ℕ → List ℕ
without_zeros digits = drop (front_len is_zero digits) digits

-- the volume of four digits, if nothing follows the numeral
abbrev pub volume_by : Place → Place → Place → Place → Option (List ℕ)
volume_by first second third fourth =
    if is_empty fourth.rest
    then volume_text_of (without_zeros ((48 + first.digit) ∷ (48 + second.digit) ∷ (48 + third.digit) ∷ (48 + fourth.digit) ∷ []))
    else None

abbrev pub with_units : Place → Place → Place → Option (List ℕ)
with_units first second third = volume_by first second third (units third.rest)

abbrev pub with_tens : Place → Place → Option (List ℕ)
with_tens first second = with_units first second (tens second.rest)

abbrev pub with_hundreds : Place → Option (List ℕ)
with_hundreds first = with_tens first (hundreds first.rest)

-- the volume that a Roman numeral up to MMMCMXCIX is, in any case of letters
abbrev pub roman_volume : List ℕ → Option (List ℕ)
roman_volume text = if is_section text then None else with_hundreds (thousands text)
