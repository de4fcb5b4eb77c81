-- Strings of JSON (RFC 8259, section 7).
use Rattle.std.specs.Prelude.{ℕ, ◌/◌, ◌%◌, ◌==◌, nat_lt, if◌then◌else◌, List, [], ◌∷◌, ◌++◌}
use Rattle.std.specs.List.{flat_map}
use Rattle.feed_bytes.specs.Hexadecimal.{hex_digit}

-- the lowercase digit of a number below 16
abbrev pub lower_digit : ℕ → ℕ
lower_digit n = hex_digit 97 n

-- a byte of a text, as written in a string
abbrev pub json_byte : ℕ → List ℕ
json_byte b =
    if b == 34 then 92 ∷ 34 ∷ []
    else (if b == 92 then 92 ∷ 92 ∷ []
    else (if nat_lt b 32 then 92 ∷ 117 ∷ 48 ∷ 48 ∷ lower_digit (b / 16) ∷ lower_digit (b % 16) ∷ []
    else b ∷ []))

-- a text between quotation marks
unfoldable pub json_string : List ℕ → List ℕ
json_string text = 34 ∷ (flat_map json_byte text ++ 34 ∷ [])
