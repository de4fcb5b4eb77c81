-- The rows of a file while it is read.
use Rattle.std.specs.Prelude.{◌≡◌, ◌≤◌, ℕ, List, ◌++◌, drop, length, map}
use Rattle.feed_limits.specs.Limits.{file_limit}
use Rattle.feed_kbart.specs.Index.{AreIndexed}
use Rattle.feed_kbart.specs.RowValue.{RowValue}
use Rattle.feed_kbart.specs.Stored.{row_at}
use Rattle.feed_kbart.specs.declared.index_builder.IndexBuilder.{IndexBuilder}
use Rattle.feed_kbart.specs.declared.row_store.Draft.{Draft}
use Rattle.feed_kbart.specs.declared.row_store.RowStore.{RowStore}

-- the row of a draft in a block
abbrev pub row_in : List ℕ → Draft → RowValue
row_in block draft = row_at draft.number (drop draft.start block)

-- the rows of a store: those that have a block, and the drafts of the block that is being filled
abbrev pub stored_rows : RowStore → List RowValue
stored_rows store = store.rows.items ++ map (row_in store.block.items) store.drafts.items

-- a store has these rows, whatever is added to its block
abbrev pub AreStored : List RowValue → RowStore → Type 0
AreStored rows store = (more : List ℕ) → store.rows.items ++ map (row_in (store.block.items ++ more)) store.drafts.items ≡ rows

-- a store has some rows, and an index is theirs if they are not more than a file can have
abbrev pub HaveRows : RowStore → IndexBuilder → Type 0
HaveRows store index = (rows : List RowValue) × AreStored rows store × (length rows ≤ file_limit → AreIndexed rows index)
