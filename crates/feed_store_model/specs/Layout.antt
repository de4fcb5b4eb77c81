-- The tables of a feed's database.
use Rattle.std.specs.Prelude.{true, false, [], ◌∷◌, ◌++◌, None, Some, codes, List, ℕ, pos}
use Rattle.sqlite_value.specs.declared.value.Value.TheVariants.{Null, Int}
use Rattle.sqlite.specs.Collation.TheVariants.{Binary}
use Rattle.sqlite.specs.Table.{Table}
use Rattle.sqlite.specs.Schema.{Schema}
use Rattle.sqlite.specs.Kind.{Kind}
use Rattle.sqlite.specs.Kind.TheVariants.{Integer, Text, Blob}
use Rattle.sqlite.specs.Change.{automatics}
use Rattle.sqlite.specs.Term.{Term, op2, col, lit}
use Rattle.sqlite_sql.specs.declared.ops.BinaryOp.TheVariants.{Compare, And}
use Rattle.sqlite_sql.specs.declared.ops.CompareOp.{CompareOp}
use Rattle.sqlite_sql.specs.declared.ops.CompareOp.TheVariants.{Ge, Le}
use Rattle.sqlite_schema.specs.declared.schema.Column.{Column}
use Rattle.sqlite_schema.specs.declared.schema.Index.{Index}
use Rattle.sqlite_schema.specs.declared.schema.Reference.{Reference}
use Rattle.sqlite_schema.specs.declared.schema.Action.TheVariants.{Cascade, NoAction}

-- the schema of an empty database
abbrev pub no_schema : Schema
no_schema = record { tables = []; indexes = []; views = [] }

-- a table without columns
abbrev pub no_table : Table
no_table = record {
  name = [];
  tree = 0;
  columns = [];
  key = None;
  primary = [];
  uniques = [];
  orders = [];
  checks = [];
  references = [];
  computed = [];
  stamps = record { places = []; terms = []; formats = [] };
  is_counted = false;
}

-- a column with this kind of value, which is never NULL
abbrev pub column_of : Kind → List ℕ → Column
column_of kind name = record { name = name; kind = kind; is_strict = true; not_null = true; default = Null; collation = Binary }

-- compares the column at this place with a number
abbrev pub bound_by : CompareOp → ℕ → ℕ → Term
bound_by how place n = op2 (Compare how Binary) (col 1 place) (lit (Int (pos n)))

-- the column at this place is between two numbers, both included
abbrev pub between : ℕ → ℕ → ℕ → Term
between place least most = op2 And (bound_by Ge place least) (bound_by Le place most)

-- the number of the layout
abbrev pub layout : Table
layout = record no_table {
  name = codes "feed_layout";
  columns = record (column_of Integer (codes "version")) { not_null = false } ∷ [];
  key = Some 0;
  primary = 0 ∷ [];
}

-- a row for each release: its name, the package and the day in the name, the size of its file, and its state
abbrev pub release : Table
release = record no_table {
  name = codes "feed_release";
  tree = 1;
  columns = column_of Text (codes "name") ∷ column_of Text (codes "package") ∷ column_of Integer (codes "day")
      ∷ column_of Integer (codes "size") ∷ column_of Integer (codes "state") ∷ [];
  primary = 1 ∷ [];
  uniques = (1 ∷ []) ∷ [];
  orders = (record { digits = 0 }) ∷ [];
  checks = bound_by Ge 4 0 ∷ between 5 0 2 ∷ [];
}

-- deleting a release deletes its parts and its reason
abbrev pub owner : Reference
owner = record {
  columns = 1 ∷ [];
  parent = codes "feed_release";
  parent_columns = codes "name" ∷ [];
  on_delete = Cascade;
  on_update = NoAction;
  is_deferred = false;
}

-- a row for each part: the name of its release, the place of its first byte, and its bytes
abbrev pub piece : Table
piece = record no_table {
  name = codes "feed_piece";
  tree = 3;
  columns = column_of Text (codes "name") ∷ column_of Integer (codes "place") ∷ column_of Blob (codes "bytes") ∷ [];
  primary = 1 ∷ 2 ∷ [];
  uniques = (1 ∷ 2 ∷ []) ∷ [];
  orders = (record { digits = 0 }) ∷ [];
  checks = bound_by Ge 2 0 ∷ [];
  references = owner ∷ [];
}

-- a row for each broken release: its name, the number of the reason, and the place of the label that the reason names
abbrev pub reason : Table
reason = record no_table {
  name = codes "feed_reason";
  tree = 5;
  columns = column_of Text (codes "name") ∷ column_of Integer (codes "reason") ∷ column_of Integer (codes "label") ∷ [];
  primary = 1 ∷ [];
  uniques = (1 ∷ []) ∷ [];
  orders = (record { digits = 0 }) ∷ [];
  checks = between 2 1 5 ∷ between 3 0 13 ∷ [];
  references = owner ∷ [];
}

-- the first three tables and more after them, with the indexes of their unique keys
abbrev pub schema_with : List Table → List Index → Schema
schema_with more keys = record {
  tables = layout ∷ release ∷ piece ∷ more;
  indexes = automatics release 0 2 release.uniques ++ automatics piece 0 4 piece.uniques ++ keys;
  views = [];
}

-- layout 1: exactly three tables
abbrev pub layout_1_schema : Schema
layout_1_schema = schema_with [] []

-- layout 2: exactly four tables
abbrev pub layout_2_schema : Schema
layout_2_schema = schema_with (reason ∷ []) (automatics reason 0 6 reason.uniques)
