-- The model value of a query.
use Rattle.std.specs.Prelude.{ℕ, Bool, false, List, [], ◌∷◌, ◌++◌, map, Option, Some, None}
use Rattle.std.specs.List.{list_any}
use Rattle.feed_dates.specs.declared.day_range.DayRange.{DayRange}
use Rattle.feed_identifiers.specs.Identifier.{identifier_eq}
use Rattle.feed_identifiers.specs.declared.identifier.Identifier.{Identifier}
use Rattle.feed_identifiers.specs.declared.identifier.Identifier.TheVariants.{Issn, Isbn}
use Rattle.feed_answer.specs.IdentifierSet.{identifier_set}

-- the printed bytes of the ISSNs and of the ISBNs asked for, ascending and each once, and the days and the volume
pub record QueryValue : Type 0 where
  pub issns : List (List ℕ)
  pub isbns : List (List ℕ)
  pub days : Option DayRange
  pub volume : Option ℕ

-- the query for these identifiers, whatever their order is
abbrev pub query_with : List (List ℕ) → List (List ℕ) → Option DayRange → Option ℕ → QueryValue
query_with issns isbns days volume =
    record { issns = identifier_set issns; isbns = identifier_set isbns; days = days; volume = volume }

-- the identifiers asked for: the ISSNs, and then the ISBNs
abbrev pub asked : QueryValue → List Identifier
asked query = map Issn query.issns ++ map Isbn query.isbns

-- an identifier is among those asked for
abbrev pub is_named : QueryValue → Option Identifier → Bool
is_named query None = false
is_named query (Some own) = list_any (λ one. identifier_eq one own) (asked query)

-- the only one of some, if there is only one
abbrev pub sole : {A : Type 0} → List A → Option A
sole (one ∷ []) = Some one
sole _ = None
