-- The content of a feed's tables, and the rows that the product writes.
use Rattle.std.specs.Prelude.{◌≡◌, ◌≤◌, ◌==◌, ◌&&◌, ℕ, ℤ, pos, Bool, nat_le, if◌then◌else◌, List, [], ◌∷◌, Option, Some, None, IsSome, map, filter, option_map}
use Rattle.std.specs.List.{AllByRecursion, Contains, IsDistinct}
use Rattle.std.specs.Ordering.{is_eq}
use Rattle.std.specs.Cmp.Lexicographic.{pointwise}
use Rattle.feed_names.specs.ReleaseName.{Name, IsName, text_of}
use Rattle.feed_kbart.specs.declared.fault.BadFile.{BadFile}
use Rattle.feed_kbart.specs.declared.fault.BadFile.TheVariants.{NotUtf8, TwoMarks, NoHeader, MissingLabel, LabelTwice}
use Rattle.feed_kbart.specs.Labels.{label_at, required_labels}
use Rattle.feed_model.specs.declared.state.State.{State}
use Rattle.feed_model.specs.declared.state.State.TheVariants.{Staged, Broken, Active}
use Rattle.feed_model.specs.Reply.{max_file}
use Rattle.feed_model.specs.Content.{Part, Record, Content}
use Rattle.feed_model.specs.Change.{insert_part, insert_record}
use Rattle.sqlite_value.specs.declared.value.Value.TheVariants.{Null, Int, Text, Blob}
use Rattle.sqlite_value.specs.Order.{Row, column, bytes, value_cmp}
use Rattle.sqlite_trees.specs.Tree.{rowid}
use Rattle.sqlite_trees.specs.Objects.{number_in}
use Rattle.sqlite_rules.specs.Edit.{id_in}
use Rattle.sqlite.specs.Effect.{Database, IsDatabase}
use Rattle.sqlite.specs.Table.{Table}
use Rattle.sqlite_schema.specs.declared.schema.Index.{Index}
use Rattle.feed_store_model.specs.Layout.{schema_with, layout_1_schema, layout_2_schema}

-- ---- the content of arbitrary rows

-- the state with this number
abbrev pub state_at : ℕ → State
state_at n = if n == 0 then Staged else if n == 1 then Broken else Active

-- the number that stores a state
abbrev pub number_of : State → ℕ
number_of Staged = 0
number_of Broken = 1
number_of Active = 2

-- the text in the first column, which is the name's
abbrev pub text_in : Row → List ℕ
text_in row = bytes (column row 1)

-- the name formed by the package and the day
abbrev pub name_in : Row → Name
name_in row = record { package_name = bytes (column row 2); day = id_in (column row 3) }

-- the part of a row: its first place and its bytes
abbrev pub part_in : Row → Part
part_in row = record { first = number_in (column row 2); bytes = bytes (column row 3) }

-- whether the row has this text in its first column
abbrev pub is_of : List ℕ → Row → Bool
is_of text row = pointwise ◌==◌ (text_in row) text

-- sorts parts by their first places
abbrev pub sorted_parts : List Part → List Part
sorted_parts [] = []
sorted_parts (p ∷ ps) = insert_part p (sorted_parts ps)

-- the parts of a name, in order
abbrev pub parts_in : List Row → List ℕ → List Part
parts_in pieces text = sorted_parts (map part_in (filter (is_of text) pieces))

-- the record of a release's row, with the parts of its name, and without a reason
abbrev pub record_in : List Row → Row → Record
record_in pieces row = record {
  name = name_in row;
  size = number_in (column row 4);
  state = state_at (number_in (column row 5));
  reason = None;
  parts = parts_in pieces (text_in row);
}

-- sorts records by the texts of their names
abbrev pub sorted : List Record → Content
sorted [] = []
sorted (r ∷ rs) = insert_record r (sorted rs)

-- the content of rows of releases and of parts, without reasons
abbrev pub content_in : List Row → List Row → Content
content_in releases pieces = sorted (map (record_in pieces) releases)

-- the reason with this number and this place of a label, if there is one
abbrev pub reason_at : ℕ → ℕ → Option BadFile
reason_at number place =
    if number == 1 && place == 0 then Some NotUtf8
    else if number == 2 && place == 0 then Some TwoMarks
    else if number == 3 && place == 0 then Some NoHeader
    else if number == 4 && nat_le place 8 then option_map MissingLabel (label_at place)
    else if number == 5 then option_map LabelTwice (label_at place)
    else None

-- a reason that can be stored: a missing label is a required one
abbrev pub IsStored : BadFile → Type 0
IsStored (MissingLabel label) = Contains required_labels label
IsStored why = Unit {0}

-- the reason in a row
abbrev pub reason_in_row : Row → Option BadFile
reason_in_row row = reason_at (number_in (column row 2)) (number_in (column row 3))

-- the reason of a name: that of its first row
abbrev pub reason_in : List Row → List ℕ → Option BadFile
reason_in [] text = None
reason_in (row ∷ rows) text = if is_of text row then reason_in_row row else reason_in rows text

-- the record with the reason of its name
abbrev pub explained_by : List Row → Record → Record
explained_by reasons r = record r { reason = reason_in reasons (text_of r.name) }

-- the content with the reasons of its names
abbrev pub explained : List Row → Content → Content
explained reasons c = map (explained_by reasons) c

-- the releases of a database, each with the parts of its name and without a reason: the content of layout 1
abbrev pub content_without_reasons : Database → Content
content_without_reasons db = content_in (db.trees 1) (db.trees 3)

-- the content of a database of layout 2: the same, with the reasons
abbrev pub stored_content : Database → Content
stored_content db = explained (db.trees 5) (content_without_reasons db)

-- ---- the rows that the product writes

-- a row of a release; the rowid comes before the columns
abbrev pub release_row : ℤ → Name → ℕ → State → Row
release_row id n size state =
    Int id ∷ Text (text_of n) ∷ Text n.package_name ∷ Int n.day ∷ Int (pos size) ∷ Int (pos (number_of state)) ∷ []

-- a row of a part
abbrev pub piece_row : ℤ → List ℕ → Part → Row
piece_row id text p = Int id ∷ Text text ∷ Int (pos p.first) ∷ Blob p.bytes ∷ []

-- a row of a reason
abbrev pub reason_row : ℤ → List ℕ → ℕ → ℕ → Row
reason_row id text number place = Int id ∷ Text text ∷ Int (pos number) ∷ Int (pos place) ∷ []

-- the row with the number of the layout; as an integer primary key it is the rowid, and its column is NULL
abbrev pub version_row : ℕ → Row
version_row number = Int (pos number) ∷ Null ∷ []

-- a row of a release: its text is the name formed by its package and day, and its size is within the limit
pub record IsReleaseRow (row : Row) : Type 0 where
  pub is : row ≡ release_row (id_in (rowid row)) (name_in row) (number_in (column row 4)) (state_at (number_in (column row 5)))
  pub named : IsName (text_of (name_in row)) (name_in row)
  pub limit : number_in (column row 4) ≤ max_file

-- a row of a part
abbrev pub IsPieceRow : Row → Type 0
IsPieceRow row = row ≡ piece_row (id_in (rowid row)) (text_in row) (part_in row)

-- a row of a reason with a valid number and a valid place of its label
pub record IsReasonRow (row : Row) : Type 0 where
  pub is : row ≡ reason_row (id_in (rowid row)) (text_in row) (number_in (column row 2)) (number_in (column row 3))
  pub said : IsSome (reason_in_row row)

-- whether two rows have the same rowid
abbrev pub same_id : Row → Row → Bool
same_id a b = is_eq (value_cmp (rowid a) (rowid b))

-- rows that the product writes, each with its own rowid
pub record AreRows (releases pieces : List Row) : Type 0 where
  pub are_releases : AllByRecursion IsReleaseRow releases
  pub are_pieces : AllByRecursion IsPieceRow pieces
  pub ids : IsDistinct same_id releases
  pub piece_ids : IsDistinct same_id pieces

-- reasons that the product writes, each with its own rowid
pub record AreReasons (reasons : List Row) : Type 0 where
  pub are : AllByRecursion IsReasonRow reasons
  pub ids : IsDistinct same_id reasons

-- the tables of releases and of parts hold a list of records, as those of layout 1 do
abbrev pub HoldsReleases : Database → Type 0
HoldsReleases db = AreRows (db.trees 1) (db.trees 3)

-- the tables of layout 2 hold a list of records
pub record HoldsRecords (db : Database) : Type 0 where
  pub rows : HoldsReleases db
  pub reasons : AreReasons (db.trees 5)

-- the database has the first three tables, possibly with more tables and indexes after them, and its constraints hold
pub record HasTables (db : Database) : Type 0 where
  pub more : List Table
  pub keys : List Index
  pub schema : db.schema ≡ schema_with more keys
  pub obeyed : IsDatabase db

-- the same, in a form that is not unfolded
unfoldable pub IsTabled : Database → Type 0
IsTabled db = HasTables db

-- the database has exactly the tables of layout 1, its constraints hold, and the layout's number is 1
pub record IsLayout1 (db : Database) : Type 0 where
  pub schema : db.schema ≡ layout_1_schema
  pub obeyed : IsDatabase db
  pub version : map rowid (db.trees 0) ≡ Int (pos 1) ∷ []

-- the database has exactly the tables of layout 2, its constraints hold, and the layout's number is 2
pub record IsLayout2 (db : Database) : Type 0 where
  pub schema : db.schema ≡ layout_2_schema
  pub obeyed : IsDatabase db
  pub version : map rowid (db.trees 0) ≡ Int (pos 2) ∷ []

-- the effect of a change on a database of layout 2: it keeps its layout, and if it held a list of records, the change
-- applies to it
pub record IsChanged (f : Content → Content) (old new : Database) : Type 0 where
  pub ours : IsLayout2 new
  pub listed : HoldsRecords old → HoldsRecords new
  pub content : HoldsRecords old → stored_content new ≡ f (stored_content old)
