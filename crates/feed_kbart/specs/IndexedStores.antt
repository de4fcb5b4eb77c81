-- The rows of a file while it is read, with their index.
use Rattle.std.specs.Prelude.{◌≤◌, List, length}
use Rattle.feed_limits.specs.Limits.{file_limit}
use Rattle.feed_kbart.specs.Index.{AreIndexed}
use Rattle.feed_kbart.specs.RowValue.{RowValue}
use Rattle.feed_kbart.specs.Store.{AreStored}
use Rattle.feed_kbart.specs.declared.indexed_store.IndexedStore.{IndexedStore}

-- a store has these rows, and their index if they are not more than a file can have
abbrev pub AreStoredAndIndexed : List RowValue → IndexedStore → Type 0
AreStoredAndIndexed rows both = AreStored rows both.store × (length rows ≤ file_limit → AreIndexed rows both.index)
