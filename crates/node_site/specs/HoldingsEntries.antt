-- The entries of the index of a holdings file, one for each row, and their order.
use Rattle.std.specs.Prelude.{◌≡◌, ◌≤◌, ◌<◌, ◌+◌, ◌-◌, ◌*◌, ◌%◌, ℕ, Bool, false, List, length, drop, fold, map, slice_index_or, sum_by, All}
use Rattle.std.specs.declared.cmp.Ordering.{Ordering}
use Rattle.std.specs.Global.{Vec}
use Rattle.std.specs.Ordering.{is_lt, nat_cmp, on, then_cmp}
use Rattle.std.specs.Cmp.Lexicographic.{slice_cmp}
use Rattle.std.specs.List.Sorted.{IsSortedBy}
use Rattle.node_site.specs.declared.entry.Entry.{Entry}
use Rattle.node_site.specs.declared.merge.Merge.{Merge}
use Rattle.node_site.specs.HoldingsFiles.{row_places, subject_at}

-- the hash after one more byte
abbrev pub hash_step : ℕ → ℕ → ℕ
hash_step hash b = (hash * 2654435761 + b) % 4294967296

abbrev pub hash_after : ℕ → List ℕ → ℕ
hash_after hash bytes = fold hash_step hash bytes

-- the hash of a package and a title
unfoldable pub hash_of : List ℕ × List ℕ → ℕ
hash_of subject = hash_after (hash_after 0 subject.0) subject.1

-- the entry of the row at a place
abbrev pub entry_at : List ℕ → ℕ → Entry
entry_at text place = record { hash = hash_of (subject_at text place); start = place }

-- the entries of rows at some places
abbrev pub entries_at : List ℕ → List ℕ → List Entry
entries_at text places = map (entry_at text) places

-- packages in the order of their bytes, and the titles of each package
abbrev pub subject_cmp : List ℕ × List ℕ → List ℕ × List ℕ → Ordering
subject_cmp = then_cmp (on (λ s. s.0) (slice_cmp nat_cmp)) (on (λ s. s.1) (slice_cmp nat_cmp))

-- the key by which entries are sorted: their hash comes first, so that few texts are compared
abbrev pub key_at : List ℕ → Entry → ℕ × (List ℕ × List ℕ)
key_at text entry = (entry.hash, subject_at text entry.start)

abbrev pub key_cmp : ℕ × (List ℕ × List ℕ) → ℕ × (List ℕ × List ℕ) → Ordering
key_cmp = then_cmp (on (λ k. k.0) nat_cmp) (on (λ k. k.1) subject_cmp)

-- the key of an entry is less than that of another
abbrev pub is_below : List ℕ → Entry → Entry → Bool
is_below text one other = is_lt (key_cmp (key_at text one) (key_at text other))

-- the entries are in the order of their keys
abbrev pub IsInOrder : List ℕ → List Entry → Type 0
IsInOrder text entries = IsSortedBy (is_below text) entries

-- the entries are those of the rows, in some order: if any weights give the same, they are the same
abbrev pub AreEntries : List ℕ → List Entry → Type 0
AreEntries text entries = (weight : Entry → ℕ) → sum_by weight entries ≡ sum_by weight (entries_at text (row_places text))

-- each entry has the hash of the package and the title of its row
abbrev pub AreHashed : List ℕ → List Entry → Type 0
AreHashed text entries = All (λ entry. entry.hash ≡ hash_of (subject_at text entry.start)) entries

-- runs of entries are in order
abbrev pub AreInOrder : List ℕ → List (Vec Entry) → Type 0
AreInOrder text runs = All (λ run. IsInOrder text run.items) runs

-- what the entries of runs weigh
abbrev pub runs_weight : (Entry → ℕ) → List (Vec Entry) → ℕ
runs_weight weight runs = sum_by (λ run. sum_by weight run.items) runs

-- the last of some entries, if there is one, does not come after another entry
abbrev pub IsLastBefore : List ℕ → List Entry → Entry → Type 0
IsLastBefore text entries next = (d : Entry) → 0 < length entries → is_below text next (slice_index_or entries (length entries - 1) d) ≡ false

-- the first entries of two runs, so many of each, are merged: they are in order, and none of them comes after one that is
-- left. Whatever an entry weighs, the merged ones and those that are left weigh as much as both runs.
pub record AreMerged (text : List ℕ) (left right : List Entry) (i j : ℕ) (merged : List Entry) : Type 0 where
  pub left_within : i ≤ length left
  pub right_within : j ≤ length right
  pub sorted : IsInOrder text merged
  pub before_left : (d : Entry) → i < length left → IsLastBefore text merged (slice_index_or left i d)
  pub before_right : (d : Entry) → j < length right → IsLastBefore text merged (slice_index_or right j d)
  pub same : (weight : Entry → ℕ) → sum_by weight merged + (sum_by weight (drop i left) + sum_by weight (drop j right))
      ≡ sum_by weight left + sum_by weight right

-- a merge of two runs in order
pub record IsMerge (text : List ℕ) (merge : Merge) : Type 0 where
  pub left : IsInOrder text merge.left.items
  pub right : IsInOrder text merge.right.items
  pub merged : AreMerged text merge.left.items merge.right.items merge.left_count merge.right_count merge.merged.items

-- how many entries of both runs are left to merge
abbrev pub left_over : Merge → ℕ
left_over merge = (length merge.left.items - merge.left_count) + (length merge.right.items - merge.right_count)

-- what the entries of both runs weigh
abbrev pub merge_weight : (Entry → ℕ) → Merge → ℕ
merge_weight weight merge = sum_by weight merge.left.items + sum_by weight merge.right.items
