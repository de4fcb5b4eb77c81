-- The sorted runs of an index that is being built.
use Rattle.std.specs.Prelude.{◌≡◌, ℕ, ◌+◌, ◌-◌, List, length, map, Option, Some, None, sum_by}
use Rattle.feed_kbart.specs.Entries.{AreSorted}
use Rattle.feed_kbart.specs.declared.entry.Entry.{Entry}
use Rattle.feed_kbart.specs.declared.index.Index.{Index}
use Rattle.feed_kbart.specs.declared.merge.Merge.{Merge}
use Rattle.feed_kbart.specs.declared.run.Run.{Run}
use Rattle.feed_kbart.specs.declared.runs.Runs.{Runs}

-- how many entries of two runs are left to merge
abbrev pub left_over : Merge → ℕ
left_over merge = (length merge.left.entries.items + length merge.right.entries.items) - (merge.left_count + merge.right_count)

-- what the entries of a run weigh
abbrev pub run_weight : (Entry → ℕ) → Run → ℕ
run_weight weight run = sum_by weight run.entries.items

-- what the entries of runs weigh
abbrev pub runs_weight : (Entry → ℕ) → List Run → ℕ
runs_weight weight runs = sum_by (run_weight weight) runs

-- what the entries of two runs in a merge weigh
abbrev pub merge_weight : (Entry → ℕ) → Option Merge → ℕ
merge_weight weight None = 0
merge_weight weight (Some merge) = run_weight weight merge.left + run_weight weight merge.right

-- what all entries weigh
abbrev pub weight_of : (Entry → ℕ) → Runs → ℕ
weight_of weight runs = runs_weight weight runs.waiting.items + merge_weight weight runs.merge

-- the columns of an index are those of sorted entries that weigh this; if any weights give the same, the entries are the
-- same but for their order
pub record HasEntries (total : (Entry → ℕ) → ℕ) (index : Index) : Type 0 where
  pub entries : List Entry
  pub sorted : AreSorted entries
  pub numbers : index.numbers.items ≡ map (λ entry. entry.number) entries
  pub places : index.places.items ≡ map (λ entry. entry.place) entries
  pub same : (weight : Entry → ℕ) → sum_by weight entries ≡ total weight
