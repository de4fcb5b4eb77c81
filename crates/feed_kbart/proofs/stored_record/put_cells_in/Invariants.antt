use Rattle.std.proofs.Common.{◌≡◌, ◌<◌, ◌++◌, ℕ, Option, drop, get_or, map}
use Rattle.std.specs.List.{flat_map}
use Rattle.csv.specs.Records.{fields_of}
use Rattle.feed_kbart.specs.Columns.{cell}
use Rattle.feed_kbart.specs.Stored.{IsShort, kept_text, text_bytes}
use Rattle.feed_kbart.proofs.stored_record.put_cells_in.Given as goal

-- the cells in the columns so far are in the block, and those that are left come after it
abbrev pub invariant-loop-column : goal.invariant-loop-column
invariant-loop-column l = record {
  added : l.block.items ++ flat_map text_bytes (map (λ column. kept_text l.is_parsed (cell column (fields_of l.fields))) (drop l.column-index l.columns))
      ≡ l.fn.block.items ++ flat_map text_bytes (map (λ column. kept_text l.is_parsed (cell column (fields_of l.fields))) l.columns);
  short : (k : ℕ) (d : Option ℕ) → k < l.column-index → IsShort (kept_text l.is_parsed (cell (get_or l.columns k d) (fields_of l.fields)));
}
