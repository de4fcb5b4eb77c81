-- The entries of an index: the number of an identifier, and the place of a row that has it.
use Rattle.std.specs.Prelude.{◌≡◌, ◌≤◌, ◌<◌, ◌+◌, ◌-◌, ◌*◌, ℕ, List, length, drop, slice_index_or, sum_by}
use Rattle.std.specs.List.Sorted.{IsNonDecreasingBy}
use Rattle.feed_kbart.specs.declared.entry.Entry.{Entry}

-- the key by which entries are sorted: by number, and then by place
abbrev pub key_of : Entry → ℕ
key_of entry = entry.number * 4294967296 + entry.place

-- the entries are in the order of their keys
abbrev pub AreSorted : List Entry → Type 0
AreSorted entries = IsNonDecreasingBy key_of entries

-- the last of some entries, if there is one, does not come after another entry
abbrev pub IsLastBefore : List Entry → Entry → Type 0
IsLastBefore entries next = (d : Entry) → 0 < length entries → key_of (slice_index_or entries (length entries - 1) d) ≤ key_of next

-- the first entries of two runs, so many of each, are merged: they are sorted, and none of them comes after one that is
-- left. Whatever an entry weighs, the merged ones and those that are left weigh as much as both runs.
pub record AreMerged (left right : List Entry) (i j : ℕ) (merged : List Entry) : Type 0 where
  pub left_within : i ≤ length left
  pub right_within : j ≤ length right
  pub sorted : AreSorted merged
  pub before_left : (e : Entry) → i < length left → IsLastBefore merged (slice_index_or left i e)
  pub before_right : (e : Entry) → j < length right → IsLastBefore merged (slice_index_or right j e)
  pub same : (weight : Entry → ℕ) → sum_by weight merged + (sum_by weight (drop i left) + sum_by weight (drop j right))
      ≡ sum_by weight left + sum_by weight right
