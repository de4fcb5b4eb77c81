-- How the places of several identifiers are merged: the first ones of two ascending lists.
use Rattle.std.specs.Prelude.{ℕ, zero, suc, ◌==◌, nat_lt, if◌then◌else◌, List, [], ◌∷◌, Option, Some, None, fold}
use Rattle.std.specs.Option.{option_map_or}
use Rattle.feed_identifiers.specs.declared.identifier.Identifier.{Identifier}
use Rattle.feed_kbart.specs.Places.{places_having}
use Rattle.feed_kbart.specs.RowValue.{RowValue}

-- the least place of two lists, and what is left of each
abbrev pub next_place : List ℕ → List ℕ → Option (ℕ × List ℕ × List ℕ)
next_place [] [] = None
next_place (x ∷ xs) [] = Some (x, xs, [])
next_place [] (y ∷ ys) = Some (y, [], ys)
next_place (x ∷ xs) (y ∷ ys) =
    if nat_lt x y then Some (x, xs, y ∷ ys) else (if x == y then Some (x, xs, ys) else Some (y, x ∷ xs, ys))

-- the first places of two lists, at most so many
abbrev pub merged : ℕ → List ℕ → List ℕ → List ℕ
merged zero xs ys = []
merged (suc n) xs ys = option_map_or (λ next. next.0 ∷ merged n next.1 next.2) (next_place xs ys) []

-- some places with those of the rows that have one of some identifiers
abbrev pub with_each : ℕ → List RowValue → List ℕ → List Identifier → List ℕ
with_each limit rows places identifiers = fold (λ some one. merged limit some (places_having one rows)) places identifiers
