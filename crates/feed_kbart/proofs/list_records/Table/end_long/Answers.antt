use Rattle.std.proofs.Common.{◌≡◌, ◌<◌, ◌+◌, ◌++◌, [], ◌∷◌, ap, arith, length, refl}
use Rattle.std.proofs.lemmas.List.{length-append}
use Rattle.csv.specs.Records.{fields_of}
use Rattle.feed_limits.specs.Limits.{file_limit}
use Rattle.feed_kbart.specs.Columns.{columns_of}
use Rattle.feed_kbart.specs.Holdings.{holdings_from}
use Rattle.feed_kbart.specs.Joined.{joined}
use Rattle.feed_kbart.specs.Stored.{in_order}
use Rattle.feed_kbart.proofs.Singles.{holdings_of_cells}
use Rattle.feed_kbart.proofs.Tabled.{holdings_from-append}
use Rattle.feed_kbart.proofs.list_records.Table.end_long.Goals as goal

pub returns : goal.returns
returns g c records begun few some was =
    let columns = columns_of was.header in
    let fields = joined begun (fields_of c.args.piece.now) in
    let row = (rw was.columns at c.in_ok-row.ensures.row) begun some was.long in
    let cells = c.in_ok-record.ensures (in_order columns) fields refl row in
    let small : length was.others < file_limit = omega (arith, few, ap length was.are) in
    let number : c.args.self.now.number ≡ 2 + length was.others = omega (arith, was.number) in
    let kept = c.in_ok-add.ensures (holdings_from columns 2 was.others) was.kept in
    record {
      header = was.header;
      others = was.others ++ fields ∷ [];
      are = ap (λ l. l ++ fields ∷ []) was.are;
      good = was.good;
      columns = was.columns;
      number = omega (arith, c.saturating_add-self.ensures, number, small, length-append was.others (fields ∷ []));
      kept = rw (← holdings_from-append columns 2 was.others (fields ∷ []))
          (rw (c.stored.ensures, cells, holdings_of_cells columns c.args.self.now.number fields, number) at kept);
      long = rw c.take_long.ensures.none refl;
    }
