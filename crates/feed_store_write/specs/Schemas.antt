-- A database while its tables are made.
use Rattle.std.specs.Prelude.{◌≡◌, List, [], ◌∷◌, ℕ, Result, Ok, Err, codes, false, true}
use Rattle.std.specs.List.{AllByRecursion}
use Rattle.sqlite.specs.Compile.{table_defined_by}
use Rattle.sqlite.specs.Change.{created}
use Rattle.sqlite.specs.Effect.{Database}
use Rattle.sqlite.specs.Schema.{Schema}
use Rattle.sqlite.specs.Table.{Table}
use Rattle.sqlite_schema.specs.declared.schema.Index.{Index}
use Rattle.feed_store_model.specs.Layout.{layout_1_schema, layout_2_schema, no_schema, no_table}
use Rattle.feed_store_write.specs.Texts.{layout_text, release_text}

-- the table that a text defines
abbrev pub table_in : {E : Type 0} → Result Table E → Table
table_in (Ok t) = t
table_in (Err e) = no_table

-- the schema with the table that a text defines
abbrev pub with_text : Schema → List ℕ → Schema
with_text schema text = created schema (table_in (table_defined_by text))

-- the layout's table alone
abbrev pub first_schema : Schema
first_schema = with_text no_schema layout_text

-- the layout's table, and that of the releases
abbrev pub second_schema : Schema
second_schema = with_text first_schema release_text

-- the database has this schema, and these of its tables are empty
pub record HasEmpty (schema : Schema) (tables : List ℕ) (db : Database) : Type 0 where
  pub schema_is : db.schema ≡ schema
  pub empty : AllByRecursion (λ table. db.trees table ≡ []) tables

-- the database has no table
abbrev pub HasNoTable : Database → Type 0
HasNoTable = HasEmpty no_schema []

-- the layout's table is there
abbrev pub HasLayoutTable : Database → Type 0
HasLayoutTable = HasEmpty first_schema (0 ∷ [])

-- that of the releases too
abbrev pub HasReleaseTable : Database → Type 0
HasReleaseTable = HasEmpty second_schema (0 ∷ 1 ∷ [])

-- and that of the parts
abbrev pub HasPieceTable : Database → Type 0
HasPieceTable = HasEmpty layout_1_schema (0 ∷ 1 ∷ 3 ∷ [])

-- all four are there
abbrev pub HasAllTables : Database → Type 0
HasAllTables = HasEmpty layout_2_schema (0 ∷ 1 ∷ 3 ∷ 5 ∷ [])

-- no default of the table is computed, and its rows have no running number
abbrev pub IsPlain : Table → Type 0
IsPlain table = (table.computed ≡ []) × (table.stamps ≡ no_table.stamps) × (table.is_counted ≡ false)

-- the index that a table has for a unique key
abbrev pub automatic : List ℕ → ℕ → ℕ → List ℕ → Index
automatic name tree table places =
    record { name = name; tree = tree; table = table; columns = places; order = record { digits = 0 }; is_unique = true }

-- the index of the releases' names
abbrev pub release_index : Index
release_index = automatic (codes "sqlite_autoindex_feed_release_1") 2 1 (1 ∷ [])

-- that of the places of parts
abbrev pub piece_index : Index
piece_index = automatic (codes "sqlite_autoindex_feed_piece_1") 4 3 (1 ∷ 2 ∷ [])

-- that of the names of reasons
abbrev pub reason_index : Index
reason_index = automatic (codes "sqlite_autoindex_feed_reason_1") 6 5 (1 ∷ [])
