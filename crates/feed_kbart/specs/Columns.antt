-- The columns of the labels in a header, and the faults of a header.
use Rattle.std.specs.Prelude.{ℕ, nat_lt, Bool, List, [], Option, Some, None, is_none, unwrap_or, count_by, find, map, slice_index_or}
use Rattle.std.specs.List.{position_from}
use Rattle.csv.specs.Records.{field_at}
use Rattle.feed_kbart.specs.Labels.{is_label, required_labels, slot, stored_labels, used_labels}
use Rattle.feed_kbart.specs.declared.header.Columns.{Columns}
use Rattle.feed_kbart.specs.declared.fault.BadFile.{BadFile}
use Rattle.feed_kbart.specs.declared.fault.BadFile.TheVariants.{MissingLabel, LabelTwice}
use Rattle.feed_kbart.specs.declared.label.Label.{Label}

-- the place of the first field that is the label
abbrev pub column : Label → List (List ℕ) → Option ℕ
column label header = position_from (is_label label) 0 header

-- the field in a column; empty if the record or the header does not have it
abbrev pub cell : Option ℕ → List (List ℕ) → List ℕ
cell None fields = []
cell (Some place) fields = unwrap_or (field_at fields place) []

-- the column of a label
abbrev pub column_of : Columns → Label → Option ℕ
column_of columns label = slice_index_or columns.columns (slot label) None

-- the field of a record under a label
abbrev pub field_of : Columns → Label → List (List ℕ) → List ℕ
field_of columns label fields = cell (column_of columns label) fields

-- the columns of all labels
abbrev pub columns_of : List (List ℕ) → Columns
columns_of header = record { columns = map (λ label. column label header) stored_labels }

-- the first required label that no field has
abbrev pub first_missing : List (List ℕ) → Option Label
first_missing header = find (λ l. is_none (column l header)) required_labels

-- two fields are the label
abbrev pub is_twice : List (List ℕ) → Label → Bool
is_twice header label = nat_lt 1 (count_by (is_label label) header)

-- the first label that two fields have
abbrev pub first_twice : List (List ℕ) → Option Label
first_twice header = find (is_twice header) used_labels

-- a missing label takes precedence over a repeated one
abbrev pub bad_labels : Option Label → Option Label → Option BadFile
bad_labels (Some missing) twice = Some (MissingLabel missing)
bad_labels None (Some twice) = Some (LabelTwice twice)
bad_labels None None = None

-- the first reason why a header is bad, or nothing if it is good
abbrev pub bad_header : List (List ℕ) → Option BadFile
bad_header header = bad_labels (first_missing header) (first_twice header)
