use Rattle.std.proofs.Common.{◌≡◌, ◌≤◌, ◌<◌, ◌++◌, ℕ, Option, Vec, slice_index_or}
use Rattle.std.specs.declared.alloc.Global.{Global}
use Rattle.csv.specs.Records.{fields_of}
use Rattle.feed_kbart.specs.Columns.{cell}
use Rattle.feed_kbart.specs.Joined.{from_place}
use Rattle.feed_kbart.proofs.long_row.grow_cells.Given as goal

-- the cells up to a slot have grown, and the others are as they were
abbrev pub invariant-loop-slot : goal.invariant-loop-slot
invariant-loop-slot l = record {
  passed : (slot : ℕ) (c : Option ℕ) (d : Vec ℕ Global) → slot < l.slot
      → (slice_index_or l.cells slot d).items
      ≡ (slice_index_or l.initial.cells slot d).items ++ cell (from_place l.place (slice_index_or l.columns slot c)) (fields_of l.piece);
  left : (slot : ℕ) (d : Vec ℕ Global) → l.slot ≤ slot → slice_index_or l.cells slot d ≡ slice_index_or l.initial.cells slot d;
}
