-- Volume numbers.
use Rattle.std.specs.Prelude.{ℕ, ◌+◌, ◌-◌, ◌*◌, ◌&&◌, nat_le, List, length, Option, Some, None, if◌then◌else◌, fold}
use Rattle.std.specs.List.{list_all}
use Rattle.std.specs.Char.{is_ascii_digit}

-- the number that digits denote
abbrev pub decimal : List ℕ → ℕ
decimal digits = fold (λ n b. n * 10 + (b - 48)) 0 digits

-- 1 to 9 digits are a volume number; any other text is not
abbrev pub volume_of : List ℕ → Option ℕ
volume_of text =
    if nat_le 1 (length text) && nat_le (length text) 9 && list_all is_ascii_digit text then Some (decimal text) else None
