use Rattle.std.proofs.Common.{arith}
use Rattle.feed_kbart.proofs.list_records.Table.add_piece.Goals as goal

pub returns : goal.returns
returns g c records begun some was = record {
  header = was.header;
  others = was.others;
  are = was.are;
  good = was.good;
  columns = was.columns;
  number = was.number;
  kept = was.kept;
  long = (rw was.columns at c.in_ok-row.ensures.row) begun some was.long;
}
