-- The tables of a feed in a database that may have other tables.
use Rattle.std.specs.Prelude.{◌≡◌, ◌&&◌, ◌||◌, ◌==◌, not, ℕ, Bool, false, List, [], ◌∷◌, Option, Some, find, count_by, length, codes}
use Rattle.std.specs.List.{list_any}
use Rattle.sqlite.specs.Table.{Table}
use Rattle.sqlite.specs.Schema.{Schema}
use Rattle.sqlite_schema.specs.Names.{same_name}
use Rattle.feed_store_model.specs.Layout.{layout, release, piece, reason}

-- the names of the tables
abbrev pub our_names : List (List ℕ)
our_names = codes "feed_layout" ∷ codes "feed_release" ∷ codes "feed_piece" ∷ codes "feed_reason" ∷ []

-- the name of one of the tables, in letters of either case
abbrev pub is_our_name : List ℕ → Bool
is_our_name name = list_any (λ ours. same_name name ours) our_names

-- a table or a view has this name
abbrev pub is_taken : Schema → List ℕ → Bool
is_taken schema name = list_any (λ table. same_name table.name name) schema.tables || list_any (λ view. same_name view.name name) schema.views

-- rows of the table may refer to rows of one of the tables
abbrev pub refers_to_ours : Table → Bool
refers_to_ours table = list_any (λ reference. is_our_name reference.parent) table.references

-- no other table refers to one of the tables
abbrev pub IsUnreferenced : Schema → Type 0
IsUnreferenced schema = list_any (λ table. refers_to_ours table && not (is_our_name table.name)) schema.tables ≡ false

-- the table with this name, in letters of either case
abbrev pub table_of : Schema → List ℕ → Option Table
table_of schema name = find (λ table. same_name table.name name) schema.tables

-- the table, with its rows in this tree
abbrev pub in_tree : Table → ℕ → Table
in_tree table tree = record table { tree = tree }

-- the table has no unique index but those of its unique keys
abbrev pub HasNoOtherKey : Schema → Table → Type 0
HasNoOtherKey schema table = count_by (λ index. index.is_unique && index.table == table.tree) schema.indexes ≡ length table.uniques

-- the schema has exactly this table under its name, in some tree, and no further unique index of it
pub record HasTable (schema : Schema) (table : Table) : Type 0 where
  pub tree : ℕ
  pub is : table_of schema table.name ≡ Some (in_tree table tree)
  pub keys : HasNoOtherKey schema (in_tree table tree)

-- no table or view has one of the names, and no table refers to one
pub record IsFree (schema : Schema) : Type 0 where
  pub free : list_any (is_taken schema) our_names ≡ false
  pub unreferenced : IsUnreferenced schema

-- the first three tables are there, in both layouts, and no other table refers to them
pub record HasFirstTables (schema : Schema) : Type 0 where
  pub layout : HasTable schema layout
  pub release : HasTable schema release
  pub piece : HasTable schema piece
  pub unreferenced : IsUnreferenced schema

-- exactly the tables of layout 1 are there, possibly with others beside them
pub record HasLayout1Tables (schema : Schema) : Type 0 where
  pub first : HasFirstTables schema
  pub free : is_taken schema (codes "feed_reason") ≡ false

-- the tables of layout 2 are there, possibly with others beside them
pub record HasLayout2Tables (schema : Schema) : Type 0 where
  pub first : HasFirstTables schema
  pub reason : HasTable schema reason
