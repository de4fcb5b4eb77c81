-- The escapes in the text of a published file: reading them, and writing a text with them.
use Rattle.std.specs.Prelude.{ℕ, ◌+◌, ◌*◌, ◌/◌, ◌%◌, ◌==◌, ◌||◌, nat_lt, Bool, if◌then◌else◌, List, [], ◌∷◌, ◌++◌}
use Rattle.std.specs.Prelude.{Option, Some, None, option_map}
use Rattle.std.specs.List.{flat_map}
use Rattle.std.specs.Option.{option_and_then}
use Rattle.std.specs.Char.{digit_value}
use Rattle.std.specs.Fmt.{digit_glyph}

-- the byte of `\t`, `\n`, `\r` or `\\`, by what is behind the backslash
abbrev pub letter_byte : ℕ → Option ℕ
letter_byte letter =
    if letter == 116 then Some 9
    else (if letter == 110 then Some 10
    else (if letter == 114 then Some 13
    else (if letter == 92 then Some 92
    else None)))

-- the number of a hexadecimal digit, of either case
abbrev pub hex_value : ℕ → Option ℕ
hex_value digit = if nat_lt (digit_value digit) 16 then Some (digit_value digit) else None

-- the place of a reader: among bytes, behind a backslash, behind `\x`, or behind `\x` and a digit with this number
pub data Place : Type 0 where
  Among : Place
  Behind : Place
  First : Place
  Second : (high : ℕ) → Place

-- bytes in front of a text
abbrev pub with_bytes : List ℕ → Option (List ℕ) → Option (List ℕ)
with_bytes front text = option_map (λ bytes. front ++ bytes) text

-- the bytes that a text denotes from a place on; a backslash that begins no escape makes it invalid
abbrev pub bytes_from : Place → List ℕ → Option (List ℕ)
bytes_from Among [] = Some []
bytes_from Behind [] = None
bytes_from First [] = None
bytes_from (Second high) [] = None
bytes_from Among (b ∷ text) =
    if b == 92 then bytes_from Behind text else with_bytes (b ∷ []) (bytes_from Among text)
bytes_from Behind (b ∷ text) =
    if b == 120 then bytes_from First text
    else option_and_then (λ byte. with_bytes (byte ∷ []) (bytes_from Among text)) (letter_byte b)
bytes_from First (b ∷ text) = option_and_then (λ high. bytes_from (Second high) text) (hex_value b)
bytes_from (Second high) (b ∷ text) =
    option_and_then (λ low. with_bytes ((high * 16 + low) ∷ []) (bytes_from Among text)) (hex_value b)

-- the bytes that a text denotes
abbrev pub unescaped : List ℕ → Option (List ℕ)
unescaped text = bytes_from Among text

-- a byte by its two hexadecimal digits, in capitals or not
abbrev pub hex_escape : Bool → ℕ → List ℕ
hex_escape capitals b = 92 ∷ 120 ∷ digit_glyph capitals (b / 16) ∷ digit_glyph capitals (b % 16) ∷ []

-- a byte as it is written: four have an escape with a letter or a backslash, the other control characters and those
-- above ASCII are written by their digits, and each other byte as it is
abbrev pub escape_byte : Bool → ℕ → List ℕ
escape_byte capitals b =
    if b == 9 then 92 ∷ 116 ∷ []
    else (if b == 10 then 92 ∷ 110 ∷ []
    else (if b == 13 then 92 ∷ 114 ∷ []
    else (if b == 92 then 92 ∷ 92 ∷ []
    else (if nat_lt b 32 || nat_lt 126 b then hex_escape capitals b
    else b ∷ []))))

-- bytes as they are written
abbrev pub escaped : Bool → List ℕ → List ℕ
escaped capitals bytes = flat_map (escape_byte capitals) bytes
