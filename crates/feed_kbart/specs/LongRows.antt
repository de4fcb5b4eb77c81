-- A row whose fields are read in pieces.
use Rattle.std.specs.Prelude.{◌≡◌, ◌<◌, ◌+◌, ℕ, List, Option, Vec, length, slice_index_or}
use Rattle.std.specs.declared.alloc.Global.{Global}
use Rattle.feed_kbart.specs.Columns.{cell}
use Rattle.feed_kbart.specs.Labels.{label_count}
use Rattle.feed_kbart.specs.declared.long_row.LongRow.{LongRow}

-- these are the fields of a row so far: the cells that they have in these columns
pub record IsLongRow (columns : List (Option ℕ)) (fields : List (List ℕ)) (row : LongRow) : Type 0 where
  pub same : row.columns ≡ columns
  pub place : row.place + 1 ≡ length fields
  pub cells : (slot : ℕ) (c : Option ℕ) (d : Vec ℕ Global) → slot < label_count
      → (slice_index_or row.cells slot d).items ≡ cell (slice_index_or row.columns slot c) fields
