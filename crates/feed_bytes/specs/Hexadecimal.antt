-- The digits of hexadecimal numbers, in uppercase or lowercase.
use Rattle.std.specs.Prelude.{ℕ, ◌+◌, ◌-◌, nat_lt, if◌then◌else◌}

-- the digit of a number below 16; the digit of ten is the letter `A` or `a`
abbrev pub hex_digit : ℕ → ℕ → ℕ
hex_digit ten number = if nat_lt number 10 then 48 + number else ten + (number - 10)
