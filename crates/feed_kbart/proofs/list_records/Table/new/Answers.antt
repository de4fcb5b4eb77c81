use Rattle.std.proofs.Common.{[], refl}
use Rattle.feed_kbart.specs.Columns.{columns_of}
use Rattle.feed_kbart.proofs.Steps.{holdings_from-nil}
use Rattle.feed_kbart.proofs.list_records.Table.new.Goals as goal

pub returns : goal.returns
returns g c header good columns = record {
  header = header;
  others = [];
  are = refl;
  good = good;
  columns = columns;
  number = refl;
  kept = rw (holdings_from-nil (columns_of header) 2) c.new.ensures;
  long = refl;
}
