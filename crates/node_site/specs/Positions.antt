-- Lines and columns of a text, both counted from 1.
use Rattle.std.specs.Prelude.{ℕ, ◌+◌, ◌==◌, ◌||◌, Bool, nat_lt, nat_le, List, if◌then◌else◌, fold}
use Rattle.node_site.specs.declared.position.Position.{Position}

-- a byte that begins a character of UTF-8
abbrev pub begins_char : ℕ → Bool
begins_char b = nat_lt b 128 || nat_le 192 b

-- the position after one more byte: a line feed begins a line, and a character takes a column
abbrev pub position_after : Position → ℕ → Position
position_after at b =
    if b == 10 then record { line = at.line + 1; column = 1 }
    else if begins_char b then record { line = at.line; column = at.column + 1 }
    else at

abbrev pub first_position : Position
first_position = record { line = 1; column = 1 }

-- the position after some bytes
abbrev pub position_of : List ℕ → Position
position_of before = fold position_after first_position before
