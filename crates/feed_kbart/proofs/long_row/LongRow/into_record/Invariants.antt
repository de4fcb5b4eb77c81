use Rattle.std.proofs.Common.{◌≡◌, [], Vec, ℕ, map, take}
use Rattle.std.specs.declared.alloc.Global.{Global}
use Rattle.csv.specs.Records.{fields_of, partial_of}
use Rattle.feed_kbart.proofs.long_row.LongRow.into_record.Given as goal

-- the cells so far are fields
abbrev pub invariant-loop-cell : goal.invariant-loop-cell
invariant-loop-cell l = record {
  fields : fields_of l.«record» ≡ map (λ (cell : Vec ℕ Global). cell.items) (take l.cell-index l.fn.self.cells);
  partial : partial_of l.«record» ≡ [];
}
