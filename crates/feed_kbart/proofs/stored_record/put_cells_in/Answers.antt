use Rattle.std.proofs.Common.{◌<◌, ℕ, List, Option, None, arith, get_or, length}
use Rattle.std.proofs.lemmas.List.{get_or_default}
use Rattle.csv.specs.Records.{fields_of}
use Rattle.feed_kbart.specs.Columns.{cell}
use Rattle.feed_kbart.specs.Stored.{IsShort, kept_text}
use Rattle.feed_kbart.proofs.Drafts.{put_next}
use Rattle.feed_kbart.proofs.Stored.{holds_next}
use Rattle.feed_kbart.proofs.stored_record.put_cells_in.Goals as goal

pub loop-column-preserved : goal.loop-column-preserved
loop-column-preserved c =
    let text : Option ℕ → List ℕ = λ column. kept_text c.args.is_parsed (cell column (fields_of c.args.fields.now)) in
    let columns = c.args.columns.now in
    let i = c.loop-column.column-index in
    let within : i < length columns = omega (arith, c.loop-column-test.true) in
    let short = rw (c.kept_text.ensures, c.cell_of.ensures) at c.in_ok-put_text.ensures.short in
    record {
      added = put_next text columns i _ _ _ within c.loop-column.invariant.added
          (rw (c.kept_text.ensures, c.cell_of.ensures) at c.in_ok-put_text.ensures.added);
      short = holds_next (λ column. IsShort (text column)) columns i (get_or columns i None) (get_or_default columns i None (get_or columns i None) within) within
          c.loop-column.invariant.short short;
    }
