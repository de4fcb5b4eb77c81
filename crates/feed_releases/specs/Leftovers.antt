-- The remains of the releases that a switch removed.
use Rattle.std.specs.Prelude.{◌≤◌, ◌+◌, ℕ, List, Option, Some, None, length, sum_by}
use Rattle.feed_kbart.specs.HoldingsValue.{HoldingsValue}
use Rattle.feed_releases.specs.declared.leftovers.Leftover.{Leftover}

-- the most parts that are freed at once
abbrev pub portion : ℕ
portion = 16

-- the size of the holdings that are left, in rows
abbrev pub rows_left : Option ℕ → ℕ
rows_left None = 0
rows_left (Some rows) = rows

-- what is left of a release: its parts, and the size of its holdings
abbrev pub left_of : Leftover → ℕ
left_of leftover = length leftover.parts.items + rows_left leftover.holdings

-- what is left of all, and one for each
abbrev pub left_of_all : List Leftover → ℕ
left_of_all leftovers = sum_by (λ leftover. left_of leftover + 1) leftovers

-- the holdings that are left have all the rows
abbrev pub HasRows : Option HoldingsValue → Option ℕ → Type 0
HasRows None left = Unit {0}
HasRows (Some holdings) None = ⊥
HasRows (Some holdings) (Some rows) = length holdings.rows ≤ rows
