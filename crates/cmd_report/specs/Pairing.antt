-- Rows of two lists in pairs.
use Rattle.std.specs.Prelude.{◌≡◌, ◌≤◌, ◌<◌, ◌+◌, ◌++◌, ◌⊎◌, ℕ, nat_le, Bool, true, List, length, map, slice_index_or}
use Rattle.std.specs.Borrow.{Bor}
use Rattle.std.specs.List.{All, AllWithin, count_by}
use Rattle.std.specs.List.Sorted.{IsPermutation, IsSorted}
use Rattle.std.specs.Ordering.{is_eq}
use Rattle.std.specs.declared.cmp.Ordering.{Ordering}
use Rattle.std.specs.declared.cmp.Ordering.TheVariants.{Less, Equal}
use Rattle.feed_kbart.specs.RowValue.{RowValue}
use Rattle.cmd_report.specs.Comparison.{ChangeValue}
use Rattle.cmd_report.specs.Ranking.{ranking}
use Rattle.cmd_report.specs.declared.comparison.RowChange.{RowChange}
use Rattle.cmd_report.specs.declared.order.By.{By}
use Rattle.cmd_report.specs.declared.order.By.TheVariants as key
use Rattle.cmd_report.specs.declared.pairing.Pairing.{Pairing}
use Rattle.cmd_report.specs.declared.pairing.Step.{Step}
use Rattle.cmd_report.specs.declared.pairing.Step.TheVariants.{Old, New, Both, End}

-- the row that a reference points to, and a change without addresses
abbrev pub row_of : Bor RowValue → RowValue
row_of row = row.now

abbrev pub change_of : RowChange → ChangeValue
change_of change = record { old = change.old.now; new = change.new.now }

-- the order of references to rows
abbrev pub order : By → Bor RowValue → Bor RowValue → Ordering
order by one other = ranking by one.now other.now

-- the rows do not fall
abbrev pub AreSorted : By → List (Bor RowValue) → Type 0
AreSorted by rows = IsSorted (order by) rows

-- the first rows of pairs, and the second ones
abbrev pub firsts : List RowChange → List (Bor RowValue)
firsts pairs = map (λ pair. pair.old) pairs

abbrev pub seconds : List RowChange → List (Bor RowValue)
seconds pairs = map (λ pair. pair.new) pairs

-- a row is at a place
abbrev pub IsAt : List (Bor RowValue) → ℕ → Bor RowValue → Type 0
IsAt rows place row = (place < length rows) × (row ≡ slice_index_or rows place row)

-- a row comes before those from a place on
abbrev pub IsBefore : By → Bor RowValue → List (Bor RowValue) → ℕ → Type 0
IsBefore by row rows place = AllWithin (λ other. order by row other ≡ Less) rows place (length rows)

-- the next rows of two sorted lists
abbrev pub IsStep : By → List (Bor RowValue) → ℕ → List (Bor RowValue) → ℕ → Step → Type 0
IsStep by old i new j (Old row) = IsAt old i row × IsBefore by row new j
IsStep by old i new j (New row) = IsAt new j row × IsBefore by row old i
IsStep by old i new j (Both pair) = IsAt old i pair.old × IsAt new j pair.new × (order by pair.old pair.new ≡ Equal)
IsStep by old i new j End = (length old ≤ i) × (length new ≤ j)

-- rows of two lists that are alike are in pairs
pub record ArePaired (by : By) (old new : List (Bor RowValue)) (pairing : Pairing) : Type 0 where
  pub old_rows : IsPermutation old (pairing.old.items ++ firsts pairing.pairs.items)
  pub new_rows : IsPermutation new (pairing.new.items ++ seconds pairing.pairs.items)
  pub alike : All (λ pair. order by pair.old pair.new ≡ Equal) pairing.pairs.items

-- the rows of two lists that are alike are in pairs, until none are left that are
pub record IsPairing (by : By) (old new : List (Bor RowValue)) (pairing : Pairing) : Type 0 where
  pub paired : ArePaired by old new pairing
  pub apart : All (λ one. All (λ other. order by one other ≡ Equal → ⊥) pairing.new.items) pairing.old.items

-- the pairs of a first step, and those of the rows that it leaves over
pub record IsContinued (by : By) (first whole : Pairing) : Type 0 where
  pub rest : Pairing
  pub rest_paired : IsPairing by first.old.items first.new.items rest
  pub pairs : whole.pairs.items ≡ first.pairs.items ++ rest.pairs.items
  pub old_left : whole.old.items ≡ rest.old.items
  pub new_left : whole.new.items ≡ rest.new.items

-- at most one of some rows is alike a row
abbrev pub is_single : By → List (Bor RowValue) → Bor RowValue → Bool
is_single by rows row = nat_le (count_by (λ other. is_eq (order by row other)) rows) 1

-- the row at a place and the next one are alike
abbrev pub AreTied : By → List (Bor RowValue) → ℕ → Type 0
AreTied by rows place =
    (place + 1 < length rows) × ((d : Bor RowValue) → order by (slice_index_or rows place d) (slice_index_or rows (place + 1) d) ≡ Equal)

-- two rows are alike, and no other rows of their lists are
abbrev pub IsSinglePair : By → List (Bor RowValue) → List (Bor RowValue) → Bor RowValue → Bor RowValue → Type 0
IsSinglePair by old new one other = (order by one other ≡ Equal) × (is_single by old one ≡ true) × (is_single by new other ≡ true)

-- such rows of two lists are in pairs
pub record IsSinglePairing (by : By) (old new : List (Bor RowValue)) (pairing : Pairing) : Type 0 where
  pub old_rows : IsPermutation old (pairing.old.items ++ firsts pairing.pairs.items)
  pub new_rows : IsPermutation new (pairing.new.items ++ seconds pairing.pairs.items)
  pub single : All (λ pair. IsSinglePair by old new pair.old pair.new) pairing.pairs.items
  pub apart : All (λ one. All (λ other. IsSinglePair by old new one other → ⊥) pairing.new.items) pairing.old.items

-- the rows that differ are in pairs by title id, or else by URL
pub record ArePairedChanges (old new : List (Bor RowValue)) (pairing : Pairing) : Type 0 where
  pub old_rows : IsPermutation old (pairing.old.items ++ firsts pairing.pairs.items)
  pub new_rows : IsPermutation new (pairing.new.items ++ seconds pairing.pairs.items)
  pub paired : All (λ pair. IsSinglePair key.TitleId old new pair.old pair.new ⊎ (order key.Url pair.old pair.new ≡ Equal)) pairing.pairs.items
  pub unpaired : All (λ one. All (λ other. (order key.Url one other ≡ Equal → ⊥) × (IsSinglePair key.TitleId old new one other → ⊥)) pairing.new.items) pairing.old.items
