-- Splitting a field value: its prefix, the texts around a byte, and numbers.
use Rattle.std.specs.Prelude.{ℕ, ◌+◌, ◌-◌, ◌^◌, List, length, Bool, ◌&&◌, nat_lt, ◌==◌, min, take, drop, if◌then◌else◌, Option, Some, None}
use Rattle.std.specs.List.{list_all, position}
use Rattle.std.specs.Option.{option_map, option_and_then}
use Rattle.std.specs.Char.{is_ascii_digit}
use Rattle.std.specs.Str.{str_eq_ignore_ascii_case}
use Rattle.std.specs.Str.Parse.{digits_value}

-- the byte `-`
abbrev pub dash : ℕ
dash = 45

-- the byte `/`
abbrev pub slash : ℕ
slash = 47

-- the text after a leading prefix, ignoring case
abbrev pub strip_prefix : List ℕ → List ℕ → Option (List ℕ)
strip_prefix prefix text =
    if str_eq_ignore_ascii_case (take (length prefix) text) prefix
    then Some (drop (length prefix) text)
    else None

-- the texts before and after the first such byte, if there is one
abbrev pub split_once : ℕ → List ℕ → Option (List ℕ × List ℕ)
split_once byte text =
    option_map (λ place. (take place text, drop (place + 1) text)) (position (λ other. other == byte) text)

-- the text is one digit or more
abbrev pub is_number : List ℕ → Bool
is_number text = nat_lt 0 (length text) && list_all is_ascii_digit text

-- the number that the text denotes, of any size
abbrev pub number_of : List ℕ → Option ℕ
number_of text = if is_number text then Some (digits_value 10 text) else None

-- the number fits in 64 bits
abbrev pub fits : ℕ → Bool
fits number = nat_lt number (2 ^ 64)

-- the number, if it fits in 64 bits
abbrev pub in_64_bits : ℕ → Option ℕ
in_64_bits number = if fits number then Some number else None

-- the number that the text denotes, if it fits in 64 bits
abbrev pub number_in_64_bits : List ℕ → Option ℕ
number_in_64_bits text = option_and_then in_64_bits (number_of text)

-- the number; one past 64 bits counts as the greatest that fits
abbrev pub capped_number : ℕ → ℕ
capped_number number = min number (2 ^ 64 - 1)
