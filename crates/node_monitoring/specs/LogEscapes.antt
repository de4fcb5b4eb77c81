-- Escaping the text of a client between two quotes, and how a reader decodes it.
use Rattle.std.specs.Prelude.{ℕ, ◌+◌, ◌-◌, ◌*◌, ◌/◌, ◌%◌, ◌==◌, ◌&&◌, not, Bool, nat_le, if◌then◌else◌, List, [], ◌∷◌, Option, Some, None, option_map}
use Rattle.std.specs.List.{flat_map}
use Rattle.feed_bytes.specs.Hexadecimal.{hex_digit}

-- the uppercase digit of a number below 16
abbrev pub upper_digit : ℕ → ℕ
upper_digit n = hex_digit 65 n

-- visible ASCII or a space, and neither `"` nor `\`
abbrev pub is_plain : ℕ → Bool
is_plain b = nat_le 32 b && nat_le b 126 && not (b == 34) && not (b == 92)

-- a byte of a text: itself, or `\xHH`
abbrev pub escape_byte : ℕ → List ℕ
escape_byte b = if is_plain b then b ∷ [] else 92 ∷ 120 ∷ upper_digit (b / 16) ∷ upper_digit (b % 16) ∷ []

-- a text, escaped
abbrev pub escaped : List ℕ → List ℕ
escaped text = flat_map escape_byte text

-- visible ASCII or a space, and no `"`
abbrev pub is_visible : ℕ → Bool
is_visible b = nat_le 32 b && nat_le b 126 && not (b == 34)

-- the number of a hexadecimal digit
abbrev pub hex_value : ℕ → ℕ
hex_value b = if nat_le b 57 then b - 48 else b - 55

-- how far a reader is: outside of `\xHH`, after `\`, after `\x`, or after the first digit
pub data Place : Type 0 where
  outside : Place
  marked : Place
  high : Place
  low : ℕ → Place

-- a text with one more byte in front
abbrev pub with_byte : ℕ → Option (List ℕ) → Option (List ℕ)
with_byte b text = option_map (λ bytes. b ∷ bytes) text

-- decodes a text from such a place on
abbrev pub undone : Place → List ℕ → Option (List ℕ)
undone outside [] = Some []
undone marked [] = None
undone high [] = None
undone (low h) [] = None
undone outside (b ∷ text) = if b == 92 then undone marked text else with_byte b (undone outside text)
undone marked (b ∷ text) = if b == 120 then undone high text else None
undone high (b ∷ text) = undone (low (hex_value b)) text
undone (low h) (b ∷ text) = with_byte (16 * h + hex_value b) (undone outside text)

-- decodes an escaped text
abbrev pub unescaped : List ℕ → Option (List ℕ)
unescaped text = undone outside text
