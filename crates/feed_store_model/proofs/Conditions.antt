-- The rows that the two statements with a condition select, and the effect of the one that sets a state.
use Rattle.std.proofs.Common.{List, [], ◌∷◌, ℕ, ℤ, Bool}
use Rattle.sqlite_value.specs.declared.value.Value.TheVariants.{Int, Text}
use Rattle.sqlite_value.specs.Order.{Row}
use Rattle.sqlite_sql.specs.declared.ops.BinaryOp.TheVariants.{Compare}
use Rattle.sqlite_sql.specs.declared.ops.CompareOp.TheVariants.{Eq, Lt}
use Rattle.sqlite.specs.Collation.TheVariants.{Binary}
use Rattle.sqlite.specs.Query.{Query}
use Rattle.sqlite.specs.Term.{col, op2}
use Rattle.feed_store_model.proofs.Rows.{passes, table_query}

-- the releases of a package before a day
abbrev pub earlier : Query
earlier = table_query 1 (op2 (Compare Eq Binary) (col 1 2) (col 0 0) ∷ op2 (Compare Lt Binary) (col 1 3) (col 0 1) ∷ [])
    (col 1 0 ∷ []) []

-- the release of a name, with another state
abbrev pub with_new_state : Query
with_new_state = table_query 1 (op2 (Compare Eq Binary) (col 1 1) (col 0 0) ∷ [])
    (col 1 0 ∷ col 1 0 ∷ col 1 1 ∷ col 1 2 ∷ col 1 3 ∷ col 1 4 ∷ col 0 1 ∷ []) []

-- the release is of the package, and before the day
abbrev pub goes : List ℕ → ℤ → Row → Bool
goes package_name day row = passes earlier.filter (Text package_name ∷ Int day ∷ []) row
