-- The reasons as they are read.
use Rattle.std.specs.Prelude.{◌≡◌, ℤ, ℕ, List, map, Some, IsPermutation}
use Rattle.std.specs.List.{AllByRecursion}
use Rattle.std.specs.Option.{option_or}
use Rattle.sqlite_value.specs.declared.value.Value.TheVariants.{Int}
use Rattle.sqlite_value.specs.Order.{Row}
use Rattle.sqlite_trees.specs.Tree.{rowid}
use Rattle.sqlite.specs.Effect.{Database}
use Rattle.feed_kbart.specs.declared.fault.BadFile.{BadFile}
use Rattle.feed_names.specs.ReleaseName.{text_of}
use Rattle.feed_model.specs.Content.{Content, Record}
use Rattle.feed_store_model.specs.Tables.{IsReasonRow, reason_in, reason_in_row, text_in}
use Rattle.feed_store_read.specs.Pieces.{if_named}

-- the row is this reason of a name, and has this rowid
pub record IsReasonIn (row : Row) (id : ℤ) (text : List ℕ) (why : BadFile) : Type 0 where
  pub is : IsReasonRow row
  pub number : rowid row ≡ Int id
  pub named : text_in row ≡ text
  pub says : reason_in_row row ≡ Some why

-- the record with this reason, if it has this name and no reason yet
abbrev pub with_first_reason : List ℕ → BadFile → Record → Record
with_first_reason text why r = if_named text (λ r. record r { reason = option_or r.reason (Some why) }) r

-- the record with the reason that these rows say of its name, if it has none yet
abbrev pub with_row_reason : List Row → Record → Record
with_row_reason rows r = record r { reason = option_or r.reason (reason_in rows (text_of r.name)) }

-- the rows are reasons with these rowids, and are set in the records
pub record ShowReasons (rows : List Row) (ids : List ℤ) (old new : Content) : Type 0 where
  pub proper : AllByRecursion IsReasonRow rows
  pub numbers : map rowid rows ≡ map Int ids
  pub shows : new ≡ map (with_row_reason rows) old

-- the rows of the table are reasons with these rowids, and are set in the records
pub record AreReasonsOf (db : Database) (ids : List ℤ) (old new : Content) : Type 0 where
  pub rows : List Row
  pub moved : IsPermutation (db.trees 5) rows
  pub show : ShowReasons rows ids old new
