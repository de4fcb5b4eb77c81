-- The reading of a holdings file in steps: what is found so far, and how many steps are left.
use Rattle.std.specs.Prelude.{◌≡◌, ◌≤◌, ◌<◌, ◌+◌, ◌-◌, ◌*◌, ℕ, List, length, None, sum_by}
use Rattle.std.specs.Global.{Vec}
use Rattle.node_site.specs.declared.entry.Entry.{Entry}
use Rattle.node_site.specs.declared.merge.Merge.{Merge}
use Rattle.node_site.specs.declared.holdings_reading.Phase.{Phase}
use Rattle.node_site.specs.declared.holdings_reading.Phase.TheVariants.{Rows, Merging, Comparing, Done}
use Rattle.node_site.specs.HoldingsEntries.{AreEntries, AreInOrder, IsInOrder, IsMerge, entries_at, left_over, merge_weight, runs_weight}
use Rattle.node_site.specs.HoldingsFaults.{first_fault}
use Rattle.node_site.specs.HoldingsFiles.{row_places}
use Rattle.node_site.specs.HoldingsIndex.{AreOnBelow, AreOnListed, IsHeaded, IsIndexed, IsPeacefulBelow, places_behind}
use Rattle.node_site.specs.declared.places.Places.{Places}

-- the rows before a place are in sorted runs, and none of them has a fault
pub record AreRows (text : List ℕ) (place : ℕ) (runs : List (Vec Entry)) : Type 0 where
  pub within : place ≤ length text
  pub sorted : AreInOrder text runs
  pub same : (weight : Entry → ℕ) → runs_weight weight runs + sum_by weight (entries_at text (places_behind text place))
      ≡ sum_by weight (entries_at text (row_places text))
  pub fine : first_fault text (row_places text) ≡ first_fault text (places_behind text place)

-- a sorted run of the rows that begin behind some places, and none of them has a fault
pub record IsRunOf (text : List ℕ) (start to : ℕ) (run : Vec Entry) : Type 0 where
  pub sorted : IsInOrder text run.items
  pub same : (weight : Entry → ℕ) → sum_by weight run.items + sum_by weight (entries_at text (places_behind text to))
      ≡ sum_by weight (entries_at text (places_behind text start))
  pub fine : first_fault text (places_behind text start) ≡ first_fault text (places_behind text to)

-- all rows are in sorted runs
pub record AreRuns (text : List ℕ) (runs : List (Vec Entry)) : Type 0 where
  pub sorted : AreInOrder text runs
  pub same : (weight : Entry → ℕ) → runs_weight weight runs ≡ sum_by weight (entries_at text (row_places text))
  pub fine : first_fault text (row_places text) ≡ None

-- two of the runs are being merged
pub record AreMerging (text : List ℕ) (merge : Merge) (runs : List (Vec Entry)) : Type 0 where
  pub is_merge : IsMerge text merge
  pub sorted : AreInOrder text runs
  pub same : (weight : Entry → ℕ) → merge_weight weight merge + runs_weight weight runs ≡ sum_by weight (entries_at text (row_places text))
  pub fine : first_fault text (row_places text) ≡ None

-- all rows are in order, as many as the index says do not contradict each other, and the packages of which these switch a
-- title on have places
pub record AreCompared (text : List ℕ) (entries : List Entry) (index : ℕ) (on : Places) : Type 0 where
  pub within : index ≤ length entries
  pub sorted : IsInOrder text entries
  pub same : AreEntries text entries
  pub peaceful : IsPeacefulBelow text entries index
  pub packages : AreOnBelow text entries index on
  pub fine : first_fault text (row_places text) ≡ None

-- the file is read
pub record IsRead (text : List ℕ) (entries : List Entry) (on : Places) : Type 0 where
  pub indexed : IsIndexed text entries
  pub packages : AreOnListed text on
  pub fine : first_fault text (row_places text) ≡ None

abbrev pub IsPhase : List ℕ → Phase → Type 0
IsPhase text (Rows place runs) = AreRows text place runs.items
IsPhase text (Merging merge runs) = AreMerging text merge runs.items
IsPhase text (Comparing entries index on) = AreCompared text entries.items index on
IsPhase text (Done entries on) = IsRead text entries.items on

-- at most how many steps are left. A run counts for more than the entries of a file, so that a merge leaves fewer steps
abbrev pub steps_left : List ℕ → Phase → ℕ
steps_left text (Rows place runs) = 33554432 * (length runs.items + 2 * (length text - place) + 2)
steps_left text (Merging merge runs) = 33554432 * (length runs.items + 1) + left_over merge + 2
steps_left text (Comparing entries index on) = 1 + (length entries.items - index)
steps_left text (Done entries on) = 0

-- after a phase fewer steps are left, or the file is read
abbrev pub IsNext : List ℕ → Phase → Phase → Type 0
IsNext text phase (Done entries on) = Unit {0}
IsNext text phase (Rows place runs) = steps_left text (Rows place runs) < steps_left text phase
IsNext text phase (Merging merge runs) = steps_left text (Merging merge runs) < steps_left text phase
IsNext text phase (Comparing entries index on) = steps_left text (Comparing entries index on) < steps_left text phase

-- a text with its header is in a phase
pub record IsReading (text : List ℕ) (phase : Phase) : Type 0 where
  pub headed : IsHeaded text
  pub is_phase : IsPhase text phase
