-- The releases as they are read, and the state that a reading leaves.
use Rattle.std.specs.Prelude.{◌≡◌, ◌⊎◌, [], false, List, map, IsPermutation}
use Rattle.std.specs.List.{AllByRecursion}
use Rattle.std.specs.List.Sorted.{IsSorted}
use Rattle.std.specs.Ordering.{nat_cmp, on}
use Rattle.std.specs.Cmp.Lexicographic.{slice_cmp}
use Rattle.sqlite_value.specs.declared.value.Value.TheVariants.{Int}
use Rattle.sqlite_value.specs.Order.{Row}
use Rattle.sqlite_trees.specs.Tree.{rowid}
use Rattle.sqlite.specs.Effect.{Database}
use Rattle.sqlite.specs.State.{State, IsRolledBack, IsUnchanged}
use Rattle.feed_keep.specs.Shown.{shown}
use Rattle.feed_store_model.specs.Live.{IsLive}
use Rattle.feed_store_model.specs.Tables.{IsReleaseRow, record_in, text_in}
use Rattle.feed_store_read.specs.declared.releases.Releases.{Releases}

-- a call writes nothing and opens no transaction; if it fails, it may undo what was not committed
pub record WritesNothing (old new : State) : Type 0 where
  pub idle : old.in_transaction ≡ false → new.in_transaction ≡ false
  pub live : IsLive new → IsLive old
  pub kept : IsLive new → IsUnchanged old new ⊎ IsRolledBack old new
  pub limit : new.step_limit ≡ old.step_limit

-- a reading outside a transaction changes no row and opens no transaction
pub record LeavesRows (old new : State) : Type 0 where
  pub idle : new.in_transaction ≡ false
  pub live : IsLive new → IsLive old
  pub same : IsLive new → new.now ≡ old.now
  pub limit : new.step_limit ≡ old.step_limit

-- the rows are those of the releases found, one after another
pub record ShowReleases (rows : List Row) (found : Releases) : Type 0 where
  pub proper : AllByRecursion IsReleaseRow rows
  pub numbers : map rowid rows ≡ map Int found.ids.items
  pub shows : shown found.records.items ≡ map (record_in []) rows

-- no text is less than the one before it
abbrev pub AreTextsInOrder : List Row → Type 0
AreTextsInOrder = IsSorted (on text_in (slice_cmp nat_cmp))

-- the rows of the table are those of the releases found, in the order of their texts
pub record AreReleases (db : Database) (found : Releases) : Type 0 where
  pub rows : List Row
  pub moved : IsPermutation (db.trees 1) rows
  pub order : AreTextsInOrder rows
  pub show : ShowReleases rows found
