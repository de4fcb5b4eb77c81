-- A row of a release as it is read.
use Rattle.std.specs.Prelude.{◌≡◌, ℤ, []}
use Rattle.sqlite_value.specs.declared.value.Value.TheVariants.{Int}
use Rattle.sqlite_value.specs.Order.{Row}
use Rattle.sqlite_trees.specs.Tree.{rowid}
use Rattle.feed_keep.specs.declared.record.Record.{Record}
use Rattle.feed_keep.specs.Shown.{shown_record}
use Rattle.feed_store_model.specs.Tables.{IsReleaseRow, record_in}

-- the row is the release, and has this rowid
pub record IsReleaseOf (row : Row) (id : ℤ) (r : Record) : Type 0 where
  pub is : IsReleaseRow row
  pub number : rowid row ≡ Int id
  pub shows : shown_record r ≡ record_in [] row
