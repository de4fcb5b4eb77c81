-- The lists that a node holds, since too few rows are left of the active one's.
use Rattle.std.specs.Prelude.{◌≡◌, ◌≤◌, ◌<◌, ◌+◌, ◌⊎◌, ℕ, Bool, true, false, ⊤, List, length, Option, Some, None, Result, Ok, Err}
use Rattle.feed_model.specs.History.{History}
use Rattle.node_file_checks.specs.RowCounts.{AreActiveCounts, AreCountsOf, is_held, rows_before, seen_with}
use Rattle.node_file_checks.specs.declared.list_counts.ListCounts.{ListCounts}
use Rattle.node_file_checks.specs.declared.shrink_gate.ShrinkGate.{ShrinkGate}
use Rattle.node_file_checks.specs.declared.shrink_gate.HeldList.{HeldList}
use Rattle.node_file_checks.specs.declared.shrink_gate.Hindrance.{Hindrance}
use Rattle.node_file_checks.specs.declared.shrink_gate.Hindrance.TheVariants.{Held, OtherRange, Memory}

-- a node has a gate exactly if it has a bound and its client does not accept any list, and the gate has this bound
abbrev pub IsGateBy : Option ℕ → Bool → Option ShrinkGate → Type 0
IsGateBy (Some percent) false (Some gate) = gate.percent ≡ percent
IsGateBy (Some percent) false None = ⊥
IsGateBy (Some percent) true gate = gate ≡ None
IsGateBy None is_accepted gate = gate ≡ None

-- a whole file with these counts may replace the active release of a package, in a feed with this history: it is bad, so that
-- it replaces none, or enough rows are left
abbrev pub MayReplace : History → List ℕ → ℕ → Option ListCounts → Type 0
MayReplace h package_name percent None = ⊤
MayReplace h package_name percent (Some counts) =
    (active : Option ListCounts) × AreActiveCounts h package_name active × (is_held percent (rows_before active) counts.rows ≡ false)

-- a whole file is held: it is good, and too few rows are left
pub record IsHeld (h : History) (package_name : List ℕ) (percent : ℕ) (text : List ℕ) (held : HeldList) : Type 0 where
  pub counts : AreCountsOf text (Some held.counts)
  pub active : Option ListCounts
  pub reported : AreActiveCounts h package_name active
  pub before : held.before ≡ rows_before active
  pub few : is_held percent held.before held.counts.rows ≡ true

-- the result of the check of a whole file, which may run out of memory
abbrev pub IsWholeChecked : History → List ℕ → ℕ → List ℕ → Result (Unit {0}) Hindrance → Type 0
IsWholeChecked h package_name percent text (Ok done) = (counts : Option ListCounts) × AreCountsOf text counts × MayReplace h package_name percent counts
IsWholeChecked h package_name percent text (Err (Held held)) = IsHeld h package_name percent text held
IsWholeChecked h package_name percent text (Err OtherRange) = ⊥
IsWholeChecked h package_name percent text (Err Memory) = ⊤

-- the bytes from this place on join those from the front on, and are inside a file of this length
abbrev pub IsInFront : List ℕ → ℕ → List ℕ → ℕ → Type 0
IsInFront seen first bytes size = (first ≤ length seen) × (first + length bytes ≤ size)

-- the result of the check of bytes from this place on, before they are submitted as a part of a file of this length.
-- They join those from the front on, and the file does not end with them or is checked as a whole
abbrev pub IsChecked : History → List ℕ → ℕ → List ℕ → ℕ → List ℕ → ℕ → Result (Unit {0}) Hindrance → Type 0
IsChecked h package_name percent seen first bytes size (Err OtherRange) = ¬ (IsInFront seen first bytes size)
IsChecked h package_name percent seen first bytes size result =
    IsInFront seen first bytes size
    × (((length (seen_with seen first bytes) < size) × (result ≡ Ok tt))
    ⊎ ((size ≤ length (seen_with seen first bytes)) × IsWholeChecked h package_name percent (seen_with seen first bytes) result))
