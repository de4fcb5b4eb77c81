-- Sets of identifiers, as ascending lists of their printed bytes.
use Rattle.std.specs.Prelude.{ℕ, Bool, List, [], fold}
use Rattle.std.specs.declared.cmp.Ordering.{Ordering}
use Rattle.std.specs.Ordering.{nat_cmp}
use Rattle.std.specs.Cmp.Lexicographic.{slice_cmp}
use Rattle.std.specs.List.{list_any}
use Rattle.std.specs.Str.{bytes_eq}
use Rattle.std.specs.List.Sorted.{IsStrictlySortedBy}
use Rattle.std.specs.BTreeSet.{insert_key}

-- the order of bytes: the first two that differ decide
abbrev pub bytes_cmp : List ℕ → List ℕ → Ordering
bytes_cmp = slice_cmp nat_cmp

-- each identifier is below those after it, so it appears once
abbrev pub IsAscending : List (List ℕ) → Type 0
IsAscending identifiers = IsStrictlySortedBy bytes_cmp identifiers

-- the set of a list's identifiers: each is inserted in its place, unless the set has it
abbrev pub identifier_set : List (List ℕ) → List (List ℕ)
identifier_set identifiers = fold (insert_key bytes_cmp) [] identifiers

-- an identifier is in a list
abbrev pub is_among : List ℕ → List (List ℕ) → Bool
is_among identifier identifiers = list_any (λ other. bytes_eq other identifier) identifiers
