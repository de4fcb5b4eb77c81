-- Digits and check characters, which ISSNs and ISBNs have in common.
use Rattle.std.specs.Prelude.{ℕ, ◌+◌, ◌-◌, ◌*◌, ◌%◌, ◌==◌, ◌&&◌, ◌||◌, Bool, List, [], ◌∷◌, if◌then◌else◌}
use Rattle.std.specs.Char.{is_ascii_digit}
use Rattle.std.specs.List.{list_all}

-- whether a character is an x of either case
abbrev pub is_x : ℕ → Bool
is_x b = (b == 88) || (b == 120)

-- whether a character is a digit or an x
abbrev pub is_check : ℕ → Bool
is_check b = is_ascii_digit b || is_x b

-- the value of a check character: an x counts as ten
abbrev pub check_value : ℕ → ℕ
check_value b = if is_x b then 10 else b - 48

-- a check character as it is printed
abbrev pub capital : ℕ → ℕ
capital b = if is_x b then 88 else b

-- the sum of the values of digits, each multiplied by the weight at its place
abbrev pub weighted_sum : List ℕ → List ℕ → ℕ
weighted_sum [] digits = 0
weighted_sum (weight ∷ weights) [] = 0
weighted_sum (weight ∷ weights) (digit ∷ digits) = weight * (digit - 48) + weighted_sum weights digits

-- whether a character is the check character of the digits before it: their weighted sum, in which the check character
-- has the weight 1, is divisible by 11
abbrev pub is_check_of : List ℕ → List ℕ → ℕ → Bool
is_check_of weights digits check =
    list_all is_ascii_digit digits && is_check check && ((weighted_sum weights digits + check_value check) % 11 == 0)
