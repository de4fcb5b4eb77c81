-- The records of a list as they are read, one after another. Pieces of the last one may have been read.
use Rattle.std.specs.Prelude.{◌≡◌, ◌+◌, ◌∷◌, [], ℕ, List, length, None, Option, Some}
use Rattle.feed_kbart.specs.Columns.{bad_header, columns_of}
use Rattle.feed_kbart.specs.HeaderLabels.{AreHeaderFields}
use Rattle.feed_kbart.specs.Holdings.{holdings_from}
use Rattle.feed_kbart.specs.Kept.{IsKept}
use Rattle.feed_kbart.specs.LongRows.{IsLongRow}
use Rattle.feed_kbart.specs.RowValue.{RowValue}
use Rattle.feed_kbart.specs.Stored.{in_order}
use Rattle.feed_kbart.specs.declared.list_records.ListRecords.{ListRecords}
use Rattle.feed_kbart.specs.declared.list_records.Stage.{Stage}
use Rattle.feed_kbart.specs.declared.list_records.Stage.TheVariants as stage
use Rattle.feed_kbart.specs.declared.list_records.Table.{Table}
use Rattle.feed_kbart.specs.declared.long_row.LongRow.{LongRow}

-- the long row has these fields of a record so far; a record without bytes has one field, which is empty
abbrev pub IsLong : List (Option ℕ) → List (List ℕ) → Option LongRow → Type 0
IsLong columns begun None = begun ≡ [] ∷ []
IsLong columns begun (Some row) = IsLongRow columns begun row

-- the first record is a good header, and the rows and the skipped records are those of the records after it; these are the fields of the next so far
pub record IsTableOf {K : Type 0} (keeps : List RowValue → K → Type 0) (records : List (List (List ℕ))) (begun : List (List ℕ)) (table : Table K) : Type 0 where
  pub header : List (List ℕ)
  pub others : List (List (List ℕ))
  pub are : records ≡ header ∷ others
  pub good : bad_header header ≡ None
  pub columns : table.columns ≡ columns_of header
  pub number : table.number ≡ length others + 2
  pub kept : IsKept keeps (holdings_from (columns_of header) 2 others) table.kept
  pub long : IsLong (in_order (columns_of header)) begun table.long

-- what the records so far are, and the fields of the next
abbrev pub IsStageOf : {K : Type 0} → (List RowValue → K → Type 0) → List (List (List ℕ)) → List (List ℕ) → Stage K → Type 0
IsStageOf keeps records begun (stage.Start header) = (records ≡ []) × AreHeaderFields begun header
IsStageOf keeps records begun (stage.Bad why) =
    (header : List (List ℕ)) × (others : List (List (List ℕ))) × (records ≡ header ∷ others) × (bad_header header ≡ Some why)
IsStageOf keeps records begun (stage.Good table) = IsTableOf keeps records begun table

-- these records were added, then pieces of the next one with these fields, and no others
abbrev pub AreRecordsWith : {K : Type 0} → (List RowValue → K → Type 0) → List (List (List ℕ)) → List (List ℕ) → ListRecords K → Type 0
AreRecordsWith keeps records begun list = IsStageOf keeps records begun list.stage

-- these records were added, and no others
abbrev pub AreRecordsOf : {K : Type 0} → (List RowValue → K → Type 0) → List (List (List ℕ)) → ListRecords K → Type 0
AreRecordsOf keeps records list = AreRecordsWith keeps records ([] ∷ []) list
