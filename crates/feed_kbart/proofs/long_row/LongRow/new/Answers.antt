use Rattle.std.proofs.Common.{◌∙◌, refl, slice_index_or, sym}
use Rattle.feed_kbart.proofs.Cells.{cell-none}
use Rattle.feed_kbart.proofs.long_row.LongRow.new.Goals as goal

pub returns : goal.returns
returns c = record {
  same = refl;
  place = refl;
  cells = λ slot col d few. (c.from_fn.ensures.items.at slot d few).2.met.1 ∙ sym (cell-none (slice_index_or c.args.columns slot col));
}
