-- The text of a list that has arrived so far.
use Rattle.std.specs.Prelude.{◌≡◌, ◌<◌, ◌⊎◌, ◌++◌, ◌∷◌, [], ℕ, List, drop, length}
use Rattle.feed_text.specs.Records.{records_of}
use Rattle.feed_kbart.specs.Joined.{joined_first}
use Rattle.feed_kbart.specs.ListRecords.{AreRecordsWith}
use Rattle.feed_kbart.specs.RowValue.{RowValue}
use Rattle.feed_kbart.specs.Windows.{HasNoEnd}
use Rattle.feed_kbart.specs.declared.list_text.ListText.{ListText}

-- the bytes have a record, whatever comes after them
abbrev pub HasRecord : List ℕ → Type 0
HasRecord bytes = (more : List ℕ) → 0 < length (records_of (bytes ++ more))

-- this text has arrived: whatever comes after it, its records are those that were added, and those of the held bytes,
-- the first of them behind the fields of it that were added
pub record IsTextOf {K : Type 0} (keeps : List RowValue → K → Type 0) (text : List ℕ) (list : ListText K) : Type 0 where
  pub records : List (List (List ℕ))
  pub begun : List (List ℕ)
  pub are : AreRecordsWith keeps records begun list.records
  pub all : (more : List ℕ) → records_of (text ++ more) ≡ records ++ joined_first begun (records_of (list.held.items ++ more))
  pub some : (begun ≡ [] ∷ []) ⊎ HasRecord list.held.items
  pub line : HasNoEnd (drop 1 list.held.items)
