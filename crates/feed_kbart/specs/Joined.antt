-- The fields of a record that is read in pieces.
use Rattle.std.specs.Prelude.{ℕ, ◌-◌, nat_lt, if◌then◌else◌, List, [], ◌∷◌, ◌++◌, Option, Some, None}

-- a field continues in the first of other fields
abbrev pub onto_field : List ℕ → List (List ℕ) → List (List ℕ)
onto_field field [] = field ∷ []
onto_field field (next ∷ more) = (field ++ next) ∷ more

-- the same, with fields between
abbrev pub joined_from : List ℕ → List (List ℕ) → List (List ℕ) → List (List ℕ)
joined_from field [] more = onto_field field more
joined_from field (next ∷ fields) more = field ∷ joined_from next fields more

-- the fields of a line that was cut anywhere: the last one before the cut continues in the first one after it
abbrev pub joined : List (List ℕ) → List (List ℕ) → List (List ℕ)
joined [] more = more
joined (field ∷ fields) more = joined_from field fields more

-- the records after a cut, if these are the fields before it
abbrev pub joined_first : List (List ℕ) → List (List (List ℕ)) → List (List (List ℕ))
joined_first begun [] = []
joined_first begun (fields ∷ records) = joined begun fields ∷ records

-- a column counted from a place, if it is not before it
abbrev pub from_place : ℕ → Option ℕ → Option ℕ
from_place place None = None
from_place place (Some column) = if nat_lt column place then None else Some (column - place)
