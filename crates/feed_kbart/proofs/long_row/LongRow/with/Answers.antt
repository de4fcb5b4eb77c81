use Rattle.std.proofs.Common.{arith, slice_index_or}
use Rattle.csv.specs.Records.{fields_of}
use Rattle.feed_kbart.proofs.Joined.{cell-grown, length-joined}
use Rattle.feed_kbart.proofs.long_row.LongRow.with.Goals as goal

pub returns : goal.returns
returns c columns fields some is =
    let row = c.args.self in
    let piece = fields_of c.args.piece.now in
    record {
      same = is.same;
      place = omega (arith, c.in-Some.ensures.1, c.saturating_sub.ensures, c.len.ensures, is.place, some, length-joined fields piece (omega (arith, is.place)) some);
      cells = λ slot col d few.
          cell-grown (slice_index_or row.columns slot col) row.place fields piece _ _ is.place (is.cells slot col d few) (c.in_ok-grow_cells.ensures slot col d few);
    }
